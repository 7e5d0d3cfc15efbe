use Rattle.std.proofs.Common.{[], ap, sym, subst, All}
use Rattle.viper_core.specs.Literals.{IsWithinAssertion}
use Rattle.viper_core.specs.View.{assertions_of, method_of}
use Rattle.viper_state.specs.Within.{IsWithinScene}
use Rattle.viper_run.proofs.ReadyLaws.{scene_within}
use Rattle.viper_run.specs.View.{configuration_of}
use Rattle.viper_exec.specs.View.{activation_in, frames_over}
use Rattle.viper_exec.proofs.MachineLaws.{post_stops, post_steps, step_ends}
use Rattle.viper_exec.proofs.NeedLaws.{asserted_in}
use Rattle.viper_exec.proofs.bodies.end_body.Goals as goal

pub assert_all-requires-clause-clauses_within : goal.assert_all-requires-clause-clauses_within
assert_all-requires-clause-clauses_within c = subst (λ xs. All IsWithinAssertion (assertions_of xs)) (sym c.deref.ensures.value) c.requires.method_within.postconditions

pub assert_all-requires-clause-state_within : goal.assert_all-requires-clause-state_within
assert_all-requires-clause-state_within c = c.requires.ready.ready.state.within

pub assert_all-requires-clause-scene_within : goal.assert_all-requires-clause-scene_within
assert_all-requires-clause-scene_within c = subst IsWithinScene (sym c.scene.ensures) (scene_within c.args.turn c.requires.ready.ready)

pub returns-in_err-assert_all : goal.returns-in_err-assert_all
returns-in_err-assert_all c n =
    let k = activation_in c.args.machine.now in
    let d = configuration_of c.args.machine.now.configuration in
    let fs = frames_over c.args.machine.now.frames.items [] in
    step_ends _ _ c.from_residual.ensures.1 (post_stops k d fs (method_of c.args.method.now) c.args.turn n (asserted_in d.state (ap assertions_of c.deref.ensures.value) c.scene.ensures c.in_err-assert_all.ensures))

pub returns : goal.returns
returns c n =
    let k = activation_in c.args.machine.now in
    let d = configuration_of c.args.machine.now.configuration in
    let fs = frames_over c.args.machine.now.frames.items [] in
    post_steps k d fs (method_of c.args.method.now) c.args.turn n c.requires.ready (asserted_in d.state (ap assertions_of c.deref.ensures.value) c.scene.ensures c.in_ok-assert_all.ensures)
