use Rattle.std.proofs.Common.{[], ◌∙◌, ap, subst}
use Rattle.viper_core.specs.View.{assertions_of, expr_of, stmts_of}
use Rattle.viper_run.specs.View.{configuration_of}
use Rattle.viper_exec.specs.View.{activation_in, caller_of, frame_of, frames_over}
use Rattle.viper_exec.specs.Frames.{IsReadyFrame, returned_to}
use Rattle.viper_exec.specs.View.{machine_of}
use Rattle.viper_exec.proofs.MachineLaws.{frame_as, caller_steps, turned_on}
use Rattle.viper_exec.proofs.machine.step.Goals as goal

pub step_block-requires-clause-stmts_within : goal.step_block-requires-clause-stmts_within
step_block-requires-clause-stmts_within c = subst IsReadyFrame (ap frame_of c.in-Block.is) c.requires.frame_ready

pub returns-in-Block : goal.returns-in-Block
returns-in-Block c =
    let k = activation_in c.args.machine.now in
    let d = configuration_of c.args.machine.now.configuration in
    let fs = frames_over c.args.machine.now.frames.items [] in
    frame_as k d fs (ap frame_of c.in-Block.is) c.step_block.ensures

pub assert_turn-requires-clause-turns_within : goal.assert_turn-requires-clause-turns_within
assert_turn-requires-clause-turns_within c = subst IsReadyFrame (ap frame_of c.in-Turn.is) c.requires.frame_ready

pub returns-in-Turn : goal.returns-in-Turn
returns-in-Turn c =
    let k = activation_in c.args.machine.now in
    let d = configuration_of c.args.machine.now.configuration in
    let fs = frames_over c.args.machine.now.frames.items [] in
    let w = c.in-Turn.turns.now in
    frame_as k d fs (ap frame_of c.in-Turn.is)
    (turned_on k d fs w.at (expr_of w.guard) (assertions_of w.invariants.items) (stmts_of w.body.items) w.turn w.targets.items c.args.budget.now c.assert_turn.ensures)

pub end_body-requires-clause-method_within : goal.end_body-requires-clause-method_within
end_body-requires-clause-method_within c = subst IsReadyFrame (ap frame_of c.in-End.is) c.requires.frame_ready

pub returns-in-End : goal.returns-in-End
returns-in-End c =
    let k = activation_in c.args.machine.now in
    let d = configuration_of c.args.machine.now.configuration in
    let fs = frames_over c.args.machine.now.frames.items [] in
    frame_as k d fs (ap frame_of c.in-End.is) (c.end_body.ensures c.args.budget.now)

pub returns-in-Return : goal.returns-in-Return
returns-in-Return c =
    let k = activation_in c.args.machine.now in
    let d = configuration_of c.args.machine.now.configuration in
    let fs = frames_over c.args.machine.now.frames.items [] in
    frame_as k d fs (ap frame_of c.in-Return.is) (caller_steps k d fs c.args.budget.now (caller_of c.in-Return.caller.value)
    (c.return_to.ensures ∙ ap (λ x. returned_to (machine_of c.args.machine.now) (caller_of x)) c.into_inner.ensures) (subst IsReadyFrame (ap frame_of c.in-Return.is) c.requires.frame_ready) c.requires.ready)
