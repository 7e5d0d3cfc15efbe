use Rattle.std.proofs.Common.{[], ap, sym, subst, All}
use Rattle.viper_core.specs.Literals.{IsWithinAssertion}
use Rattle.viper_core.specs.View.{assertions_of, expr_of, stmts_of}
use Rattle.viper_state.specs.Within.{IsWithinScene}
use Rattle.viper_run.proofs.ReadyLaws.{scene_within}
use Rattle.viper_run.specs.View.{configuration_of}
use Rattle.viper_exec.specs.View.{activation_in, frames_over}
use Rattle.viper_exec.proofs.MachineLaws.{invariants_stop, invariants_hold, after_ready, step_ends}
use Rattle.viper_exec.proofs.NeedLaws.{asserted_in}
use Rattle.viper_exec.proofs.blocks.assert_turn.Goals as goal

pub assert_all-requires-clause-clauses_within : goal.assert_all-requires-clause-clauses_within
assert_all-requires-clause-clauses_within c = subst (λ xs. All IsWithinAssertion (assertions_of xs)) (sym c.deref.ensures.value) c.requires.turns_within.1

pub assert_all-requires-clause-state_within : goal.assert_all-requires-clause-state_within
assert_all-requires-clause-state_within c = c.requires.ready.ready.state.within

pub assert_all-requires-clause-scene_within : goal.assert_all-requires-clause-scene_within
assert_all-requires-clause-scene_within c = subst IsWithinScene (sym c.scene-scene.ensures) (scene_within c.args.at c.requires.ready.ready)

pub returns-in_err-assert_all : goal.returns-in_err-assert_all
returns-in_err-assert_all c =
    let k = activation_in c.args.machine.now in
    let d = configuration_of c.args.machine.now.configuration in
    let fs = frames_over c.args.machine.now.frames.items [] in
    let w = c.args.turns.now in
    step_ends _ _ c.from_residual.ensures.1 (invariants_stop k d fs w.at (expr_of w.guard) (assertions_of w.invariants.items) (stmts_of w.body.items) w.turn w.targets.items c.args.budget.now c.args.at
    (asserted_in d.state (ap assertions_of c.deref.ensures.value) c.scene-scene.ensures c.in_err-assert_all.ensures))

pub begin_turn-requires-clause-ready : goal.begin_turn-requires-clause-ready
begin_turn-requires-clause-ready c =
    let k = activation_in c.args.machine.now in
    let d = configuration_of c.args.machine.now.configuration in
    let fs = frames_over c.args.machine.now.frames.items [] in
    after_ready k d fs c.in_ok-assert_all.ensures c.requires.ready

pub returns : goal.returns
returns c =
    let k = activation_in c.args.machine.now in
    let d = configuration_of c.args.machine.now.configuration in
    let fs = frames_over c.args.machine.now.frames.items [] in
    let w = c.args.turns.now in
    invariants_hold k d fs w.at (expr_of w.guard) (assertions_of w.invariants.items) (stmts_of w.body.items) w.turn w.targets.items c.args.budget.now c.args.at
    (asserted_in d.state (ap assertions_of c.deref.ensures.value) c.scene-scene.ensures c.in_ok-assert_all.ensures) c.begin_turn.ensures
