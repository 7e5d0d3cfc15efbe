use Rattle.std.proofs.Common.{[]}
use Rattle.viper_core.specs.View.{method_of}
use Rattle.viper_run.specs.View.{configuration_of}
use Rattle.viper_exec.specs.View.{activation_in, frames_over}
use Rattle.viper_exec.proofs.MachineLaws.{bare_stops, bare_steps, step_ends}
use Rattle.viper_exec.proofs.bodies.call_bare.Goals as goal

pub returns-in_err-call : goal.returns-in_err-call
returns-in_err-call c n =
    let k = activation_in c.args.machine.now in
    let d = configuration_of c.args.machine.now.configuration in
    let fs = frames_over c.args.machine.now.frames.items [] in
    step_ends _ _ c.from_residual.ensures.1 (bare_stops k d fs c.args.called.at c.args.called.targets.now (method_of c.args.called.callee.now) c.args.args.items n c.in_err-call.ensures)

pub returns : goal.returns
returns c n =
    let k = activation_in c.args.machine.now in
    let d = configuration_of c.args.machine.now.configuration in
    let fs = frames_over c.args.machine.now.frames.items [] in
    bare_steps k d fs c.args.called.at c.args.called.targets.now (method_of c.args.called.callee.now) c.args.args.items n c.requires.callee_within c.requires.args_within c.requires.ready c.in_ok-call.ensures
