use Rattle.std.proofs.Common.{[], ◌∷◌, ap, sym, ◌∙◌, subst}
use Rattle.viper_core.specs.View.{assertions_of, expr_of, stmts_of}
use Rattle.viper_state.specs.Within.{IsWithinScene}
use Rattle.viper_inhale.proofs.DoesLaws.{ended_goes, ended_stops}
use Rattle.viper_run.proofs.ReadyLaws.{scene_within}
use Rattle.viper_run.specs.View.{configuration_of}
use Rattle.viper_exec.specs.View.{activation_in, frames_over}
use Rattle.viper_exec.specs.Answers.{no_memory}
use Rattle.viper_exec.specs.Frames.{Block}
use Rattle.viper_exec.proofs.MachineLaws.{guard_stops, loop_over, turn_spent, turn_begun, later_ready, step_ends}
use Rattle.viper_exec.proofs.NeedLaws.{guarded_in}
use Rattle.viper_exec.proofs.TakesLaws.{spent_at}
use Rattle.viper_exec.proofs.blocks.begin_turn.Goals as goal

pub truth_of-requires-clause-scene_within : goal.truth_of-requires-clause-scene_within
truth_of-requires-clause-scene_within c = subst IsWithinScene (sym c.scene-scene.ensures) (scene_within c.args.turns.now.at c.requires.ready.ready)

pub returns-in_err-truth_of : goal.returns-in_err-truth_of
returns-in_err-truth_of c =
    let k = activation_in c.args.machine.now in
    let d = configuration_of c.args.machine.now.configuration in
    let fs = frames_over c.args.machine.now.frames.items [] in
    let w = c.args.turns.now in
    step_ends _ _ c.from_residual.ensures.1 (guard_stops k d fs w.at (expr_of w.guard) (assertions_of w.invariants.items) (stmts_of w.body.items) w.turn w.targets.items c.args.budget.now
    (guarded_in (expr_of w.guard) d.state c.scene-scene.ensures (ended_stops {v = λ b. b} c.in_err-truth_of.ensures.answers c.in_err-truth_of.ensures.left)))

pub returns-else-branch : goal.returns-else-branch
returns-else-branch c =
    let k = activation_in c.args.machine.now in
    let d = configuration_of c.args.machine.now.configuration in
    let fs = frames_over c.args.machine.now.frames.items [] in
    let w = c.args.turns.now in
    loop_over k d fs w.at (expr_of w.guard) (assertions_of w.invariants.items) (stmts_of w.body.items) w.turn w.targets.items c.args.budget.now (guarded_in (expr_of w.guard) d.state c.scene-scene.ensures (ended_goes c.in_ok-truth_of.ensures.answers c.in_ok-truth_of.ensures.left)) c.if-branch.false (later_ready k d fs c.in_ok-truth_of.ensures.left c.requires.ready)

pub returns-in_err-begin : goal.returns-in_err-begin
returns-in_err-begin c =
    let k = activation_in c.args.machine.now in
    let d = configuration_of c.args.machine.now.configuration in
    let fs = frames_over c.args.machine.now.frames.items [] in
    let w = c.args.turns.now in
    step_ends _ _ c.from_residual-in_err-begin.ensures.1 (spent_at c.in_err-begin.ensures.spent c.in_err-begin.ensures.none_left c.in_err-begin.ensures.still_none
    (turn_spent k d fs w.at (expr_of w.guard) (assertions_of w.invariants.items) (stmts_of w.body.items) w.turn w.targets.items c.args.budget.now (guarded_in (expr_of w.guard) d.state c.scene-scene.ensures (ended_goes c.in_ok-truth_of.ensures.answers c.in_ok-truth_of.ensures.left)) c.if-branch.true c.in_err-begin.ensures.none_left))

pub returns-in_err-add_frame : goal.returns-in_err-add_frame
returns-in_err-add_frame c = step_ends _ _ c.from_residual-in_err-add_frame.ensures.1 no_memory

pub returns-in_err-add_frame-2 : goal.returns-in_err-add_frame-2
returns-in_err-add_frame-2 c = step_ends _ _ c.from_residual-in_err-add_frame-2.ensures.1 no_memory

pub returns-in_ok-add_frame-2 : goal.returns-in_ok-add_frame-2
returns-in_ok-add_frame-2 c =
    let k = activation_in c.args.machine.now in
    let d = configuration_of c.args.machine.now.configuration in
    let fs = frames_over c.args.machine.now.frames.items [] in
    let w = c.args.turns.now in
    turn_begun k d fs w.at (expr_of w.guard) (assertions_of w.invariants.items) (stmts_of w.body.items) w.turn w.targets.items c.args.budget.now (guarded_in (expr_of w.guard) d.state c.scene-scene.ensures (ended_goes c.in_ok-truth_of.ensures.answers c.in_ok-truth_of.ensures.left)) c.if-branch.true c.in_ok-begin.ensures.begins
    (c.in_ok-add_frame-2.ensures ∙ ap (λ xs. Block (stmts_of xs) ∷ frames_over c.add_frame.new.frames.items []) c.deref.ensures.value ∙ ap (λ below. Block (stmts_of w.body.items) ∷ below) c.in_ok-add_frame.ensures)
    c.requires.turns_within (later_ready k d fs c.in_ok-truth_of.ensures.left c.requires.ready)
