use Rattle.std.proofs.Common.{[]}
use Rattle.viper_core.specs.View.{expr_of, stmts_of}
use Rattle.viper_inhale.proofs.DoesLaws.{ended_goes, ended_stops}
use Rattle.viper_run.specs.View.{configuration_of}
use Rattle.viper_exec.specs.View.{activation_in, frames_over}
use Rattle.viper_exec.specs.Answers.{no_memory}
use Rattle.viper_exec.proofs.MachineLaws.{condition_stops, block_chosen, later_ready, step_ends}
use Rattle.viper_exec.proofs.NeedLaws.{guarded_in}
use Rattle.viper_exec.proofs.blocks.step_if.Goals as goal

pub returns-in_err-holds : goal.returns-in_err-holds
returns-in_err-holds c n =
    let k = activation_in c.args.machine.now in
    let d = configuration_of c.args.machine.now.configuration in
    let fs = frames_over c.args.machine.now.frames.items [] in
    step_ends _ _ c.from_residual.ensures.1 (condition_stops k d fs n c.args.at (expr_of c.args.e.now) (stmts_of c.args.first.now) (stmts_of c.args.second.now)
    (guarded_in (expr_of c.args.e.now) d.state c.scene.ensures (ended_stops {v = λ b. b} c.in_err-holds.ensures.answers c.in_err-holds.ensures.left)))

pub returns-in_err-add_frame : goal.returns-in_err-add_frame
returns-in_err-add_frame c n = step_ends _ _ c.from_residual-in_err-add_frame.ensures.1 no_memory

pub returns : goal.returns
returns c n =
    let k = activation_in c.args.machine.now in
    let d = configuration_of c.args.machine.now.configuration in
    let fs = frames_over c.args.machine.now.frames.items [] in
    block_chosen k d fs n c.args.at (expr_of c.args.e.now) (stmts_of c.args.first.now) (stmts_of c.args.second.now)
    (guarded_in (expr_of c.args.e.now) d.state c.scene.ensures (ended_goes c.in_ok-holds.ensures.answers c.in_ok-holds.ensures.left)) c.chosen-block.ensures c.in_ok-add_frame.ensures
    c.requires.if_within.1 c.requires.if_within.2 (later_ready k d fs c.in_ok-holds.ensures.left c.requires.ready)
