use Rattle.std.proofs.Common.{[]}
use Rattle.viper_core.specs.View.{stmt_of}
use Rattle.viper_run.specs.View.{configuration_of}
use Rattle.viper_exec.specs.View.{activation_in, frames_over}
use Rattle.viper_exec.proofs.MachineLaws.{plain_stops, plain_steps, step_ends}
use Rattle.viper_exec.proofs.blocks.step_other.Goals as goal

pub returns-in_err-run_stmt : goal.returns-in_err-run_stmt
returns-in_err-run_stmt c n =
    let k = activation_in c.args.machine.now in
    let d = configuration_of c.args.machine.now.configuration in
    let fs = frames_over c.args.machine.now.frames.items [] in
    step_ends _ _ c.from_residual.ensures.1 (plain_stops k d fs n (stmt_of c.args.stmt.now) c.in_err-run_stmt.ensures)

pub returns : goal.returns
returns c n =
    let k = activation_in c.args.machine.now in
    let d = configuration_of c.args.machine.now.configuration in
    let fs = frames_over c.args.machine.now.frames.items [] in
    plain_steps k d fs n (stmt_of c.args.stmt.now) c.requires.stmt_within c.requires.ready c.in_ok-run_stmt.ensures
