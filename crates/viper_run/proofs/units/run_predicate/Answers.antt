use Rattle.std.proofs.Common.{ap, ◌∙◌, subst, map, slice_get, IfSome}
use Rattle.viper_core.specs.Literals.{IsWithinAssertion}
use Rattle.viper_core.specs.View.{assertion_of, predicate_of, program_of}
use Rattle.viper_state.specs.View.{opening_of}
use Rattle.vb_value.specs.Bound.{IsWithin}
use Rattle.vb_value.specs.Fraction.{IsWithinFraction}
use Rattle.viper_meaning.specs.Ends.{found}
use Rattle.viper_meaning.specs.StatementLiterals.{AllPredicateLiterals}
use Rattle.viper_eval.proofs.AnswerLaws.{found_as, found_as_stops}
use Rattle.viper_inhale.proofs.DoesLaws.{passed}
use Rattle.viper_fold.proofs.FoldLaws.{found_is}
use Rattle.viper_run.proofs.CallLaws.{borrowed, looked_up, found_has}
use Rattle.viper_run.proofs.UnitLaws.{no_predicate, no_body, a_predicate}
use Rattle.viper_run.proofs.units.run_predicate.Goals as goal

pub returns-in_err-predicate : goal.returns-in_err-predicate
returns-in_err-predicate c =
    passed _ _ c.from_residual.ensures.1 (no_predicate (program_of c.args.program.now) c.args.number (opening_of c.args.opening.now) _ (found_as_stops (λ d. predicate_of d.now) _ _ c.in_err-predicate.ensures
    ∙ ap found (looked_up predicate_of c.get.result c.deref.result.now c.args.number c.get.ensures.lookup.0 c.get.ensures.lookup.1 ∙ ap (λ ds. slice_get (map predicate_of ds) c.args.number) c.deref.ensures.value)))

pub returns-in_err-body : goal.returns-in_err-body
returns-in_err-body c =
    passed _ _ c.from_residual-in_err-body.ensures.1 (no_body (program_of c.args.program.now) c.args.number (opening_of c.args.opening.now) (predicate_of c.in_ok-predicate.predicate.now) _
    (found_as (λ d. predicate_of d.now) _ _ c.in_ok-predicate.ensures
    ∙ ap found (looked_up predicate_of c.get.result c.deref.result.now c.args.number c.get.ensures.lookup.0 c.get.ensures.lookup.1 ∙ ap (λ ds. slice_get (map predicate_of ds) c.args.number) c.deref.ensures.value))
    (found_as_stops (λ b. assertion_of b.now) _ _ c.in_err-body.ensures ∙ ap found (borrowed assertion_of c.as_ref.result c.as_ref.ensures.value)))

pub start_predicate-requires-clause-body_within : goal.start_predicate-requires-clause-body_within
start_predicate-requires-clause-body_within c =
    subst (λ o. IfSome o IsWithinAssertion) (found_is _ _ (found_as (λ b. assertion_of b.now) _ _ c.in_ok-body.ensures ∙ ap found (borrowed assertion_of c.as_ref.result c.as_ref.ensures.value)))
    (found_has (AllPredicateLiterals IsWithin IsWithinFraction) (program_of c.args.program.now).predicates c.args.number (predicate_of c.in_ok-predicate.predicate.now) c.requires.program_within.predicates
    (found_as (λ d. predicate_of d.now) _ _ c.in_ok-predicate.ensures
    ∙ ap found (looked_up predicate_of c.get.result c.deref.result.now c.args.number c.get.ensures.lookup.0 c.get.ensures.lookup.1 ∙ ap (λ ds. slice_get (map predicate_of ds) c.args.number) c.deref.ensures.value)))

pub returns : goal.returns
returns c =
    a_predicate (program_of c.args.program.now) c.args.number (opening_of c.args.opening.now) (predicate_of c.in_ok-predicate.predicate.now) (assertion_of c.in_ok-body.body.now)
    (found_as (λ d. predicate_of d.now) _ _ c.in_ok-predicate.ensures
    ∙ ap found (looked_up predicate_of c.get.result c.deref.result.now c.args.number c.get.ensures.lookup.0 c.get.ensures.lookup.1 ∙ ap (λ ds. slice_get (map predicate_of ds) c.args.number) c.deref.ensures.value))
    (found_as (λ b. assertion_of b.now) _ _ c.in_ok-body.ensures ∙ ap found (borrowed assertion_of c.as_ref.result c.as_ref.ensures.value)) c.start_predicate.ensures
