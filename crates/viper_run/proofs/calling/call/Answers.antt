use Rattle.std.proofs.Common.{sym, ap, ◌∙◌, subst, All}
use Rattle.vb_value.specs.Bound.{Bounded}
use Rattle.viper_core.specs.Literals.{IsWithinAssertion}
use Rattle.viper_core.specs.View.{assertions_of, method_of}
use Rattle.viper_state.specs.Run.{with_variables}
use Rattle.viper_state.specs.View.{state_of}
use Rattle.viper_state.specs.Within.{IsWithinChoice, IsWithinScene}
use Rattle.viper_meaning.proofs.ShapeLaws.{exhale_all_shape}
use Rattle.viper_meaning.proofs.StatementKeptLaws.{exhale_all_within, taking_values_within}
use Rattle.viper_eval.specs.View.{lent}
use Rattle.viper_inhale.specs.Answers.{no_memory}
use Rattle.viper_inhale.proofs.DoesLaws.{passed, does_keep}
use Rattle.viper_run.specs.View.{activation_of, configuration_of}
use Rattle.viper_run.proofs.CallLaws.{call_stops, values_stop, call_goes}
use Rattle.viper_run.proofs.ReadyLaws.{left_kept, stays}
use Rattle.viper_run.proofs.calling.call.Goals as goal

pub returns-in_err-before : goal.returns-in_err-before
returns-in_err-before c = passed _ _ c.from_residual.ensures.1 no_memory

pub returns-in_err-give_up : goal.returns-in_err-give_up
returns-in_err-give_up c =
    let k = activation_of c.args.activation in
    let r = c.requires.ready in
    passed _ _ c.from_residual-in_err-give_up.ensures.1 (call_stops k c.args.called.targets.now (method_of c.args.called.callee.now) c.args.args.items c.args.called.at (configuration_of c.args.configuration.now)
    (c.with_variables-scene.ensures ∙ (λ i. with_variables (c.deref.ensures.value i) (c.scene.ensures i))) (ap assertions_of c.deref-2.ensures.value) (c.in_err-give_up.ensures k.program r.state.maps r.state.fit))

pub returns-in_err-returns : goal.returns-in_err-returns
returns-in_err-returns c =
    let k = activation_of c.args.activation in
    let r = c.requires.ready in
    passed _ _ c.from_residual-in_err-returns.ensures.1 (values_stop k c.args.called.targets.now (method_of c.args.called.callee.now) c.args.args.items c.args.called.at (configuration_of c.args.configuration.now)
    (c.with_variables-scene.ensures ∙ (λ i. with_variables (c.deref.ensures.value i) (c.scene.ensures i))) (ap assertions_of c.deref-2.ensures.value) (c.in_ok-give_up.ensures k.program r.state.maps r.state.fit)
    c.in_err-returns.ensures)

pub end_call-requires-clause-returns_within : goal.end_call-requires-clause-returns_within
end_call-requires-clause-returns_within c =
    let k = activation_of c.args.activation in
    let r = c.requires.ready in
    (does_keep (taking_values_within k.vars c.args.called.targets.now) (left_kept IsWithinChoice r.state.choices (c.in_ok-give_up.ensures k.program r.state.maps r.state.fit)) c.in_ok-returns.ensures).0

pub end_call-requires-clause-state_within : goal.end_call-requires-clause-state_within
end_call-requires-clause-state_within c =
    let k = activation_of c.args.activation in
    let r = c.requires.ready in
    let asked = assertions_of c.deref-2.result.now in
    let sc = lent c.with_variables-scene.result in
    let state = state_of c.args.configuration.now.state in
    (stays (exhale_all_within k.program asked state sc (subst (λ xs. All IsWithinAssertion (assertions_of xs)) (sym c.deref-2.ensures.value) c.requires.callee_within.preconditions) r.state.within
    (subst IsWithinScene (sym (c.with_variables-scene.ensures ∙ (λ i. with_variables (c.deref.ensures.value i) (c.scene.ensures i)))) (record { store = c.requires.args_within; old = r.old })))
    (exhale_all_shape Bounded k.program asked state sc r.state.maps) r.state (c.in_ok-give_up.ensures k.program r.state.maps r.state.fit)).within

pub end_call-requires-clause-choices_within : goal.end_call-requires-clause-choices_within
end_call-requires-clause-choices_within c =
    let k = activation_of c.args.activation in
    let r = c.requires.ready in
    left_kept IsWithinChoice (left_kept IsWithinChoice r.state.choices (c.in_ok-give_up.ensures k.program r.state.maps r.state.fit)) c.in_ok-returns.ensures

pub returns : goal.returns
returns c =
    let k = activation_of c.args.activation in
    let r = c.requires.ready in
    call_goes k c.args.called.targets.now (method_of c.args.called.callee.now) c.args.args.items c.args.called.at (configuration_of c.args.configuration.now)
    (c.with_variables-scene.ensures ∙ (λ i. with_variables (c.deref.ensures.value i) (c.scene.ensures i))) (ap assertions_of c.deref-2.ensures.value) (c.in_ok-give_up.ensures k.program r.state.maps r.state.fit)
    c.in_ok-before.ensures c.in_ok-returns.ensures c.end_call.ensures
