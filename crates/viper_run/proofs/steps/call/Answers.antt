use Rattle.std.proofs.Common.{sym, ap, ◌∙◌, subst, map, slice_get}
use Rattle.viper_core.specs.View.{exprs_of, method_of}
use Rattle.viper_state.specs.View.{state_of}
use Rattle.viper_state.specs.Within.{IsWithinScene}
use Rattle.viper_meaning.specs.Ends.{found}
use Rattle.viper_meaning.specs.StatementLiterals.{IsWithinMethod}
use Rattle.viper_eval.specs.View.{lent}
use Rattle.viper_eval.proofs.AnswerLaws.{found_as, found_as_stops}
use Rattle.viper_eval.proofs.WithinLaws.{values_within}
use Rattle.viper_inhale.proofs.DoesLaws.{passed}
use Rattle.viper_run.specs.View.{activation_of, configuration_of}
use Rattle.viper_run.proofs.CallLaws.{looked_up, found_has, args_stop, callee_stops, callee_goes}
use Rattle.viper_run.proofs.ReadyLaws.{ready_at, scene_within}
use Rattle.viper_run.proofs.steps.call.Goals as goal

pub returns-in_err-args : goal.returns-in_err-args
returns-in_err-args c =
    passed _ _ c.from_residual.ensures.1 (args_stop (activation_of c.args.activation) (configuration_of c.args.configuration.now) c.scene-scene.ensures c.args.targets.now c.args.invocation.method (exprs_of c.args.invocation.args.now)
    c.in_err-args.ensures.answers c.in_err-args.ensures.left)

pub returns-in_err-callee : goal.returns-in_err-callee
returns-in_err-callee c =
    passed _ _ c.from_residual-in_err-callee.ensures.1 (callee_stops (activation_of c.args.activation) (configuration_of c.args.configuration.now) c.scene-scene.ensures c.args.targets.now c.args.invocation.method (exprs_of c.args.invocation.args.now)
    c.in_ok-args.ensures.answers c.in_ok-args.ensures.left _ (found_as_stops (λ m. method_of m.now) _ _ c.in_err-callee.ensures ∙ ap found (looked_up method_of c.get.result c.deref.result.now c.args.invocation.method c.get.ensures.lookup.0 c.get.ensures.lookup.1 ∙ ap (λ ms. slice_get (map method_of ms) c.args.invocation.method) c.deref.ensures.value)))

pub call-requires-clause-callee_within : goal.call-requires-clause-callee_within
call-requires-clause-callee_within c =
    found_has IsWithinMethod (activation_of c.args.activation).program.methods c.args.invocation.method _ c.requires.ready.program.methods (found_as (λ m. method_of m.now) _ _ c.in_ok-callee.ensures ∙ ap found (looked_up method_of c.get.result c.deref.result.now c.args.invocation.method c.get.ensures.lookup.0 c.get.ensures.lookup.1 ∙ ap (λ ms. slice_get (map method_of ms) c.args.invocation.method) c.deref.ensures.value))

pub call-requires-clause-args_within : goal.call-requires-clause-args_within
call-requires-clause-args_within c =
    values_within (λ vs. vs.items) (exprs_of c.args.invocation.args.now) (state_of c.args.configuration.now.state) (lent c.scene-scene.result) c.requires.args_within c.requires.ready.state.within
    (subst IsWithinScene (sym c.scene-scene.ensures) (scene_within c.args.at c.requires.ready)) c.in_ok-args.ensures.answers

pub call-requires-clause-ready : goal.call-requires-clause-ready
call-requires-clause-ready c = ready_at c.requires.ready c.in_ok-args.ensures.left

pub returns : goal.returns
returns c =
    callee_goes (activation_of c.args.activation) (configuration_of c.args.configuration.now) c.scene-scene.ensures c.args.targets.now c.args.invocation.method (exprs_of c.args.invocation.args.now)
    c.in_ok-args.ensures.answers c.in_ok-args.ensures.left (method_of c.in_ok-callee.callee.now) (found_as (λ m. method_of m.now) _ _ c.in_ok-callee.ensures ∙ ap found (looked_up method_of c.get.result c.deref.result.now c.args.invocation.method c.get.ensures.lookup.0 c.get.ensures.lookup.1 ∙ ap (λ ms. slice_get (map method_of ms) c.args.invocation.method) c.deref.ensures.value)) c.call.ensures
