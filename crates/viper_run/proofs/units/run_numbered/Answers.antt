use Rattle.std.proofs.Common.{ap, ◌∙◌, map, slice_get}
use Rattle.viper_core.specs.View.{method_of, program_of}
use Rattle.viper_state.specs.View.{opening_of}
use Rattle.viper_meaning.specs.Ends.{found}
use Rattle.viper_meaning.specs.StatementLiterals.{IsWithinMethod}
use Rattle.viper_eval.proofs.AnswerLaws.{found_as, found_as_stops}
use Rattle.viper_inhale.proofs.DoesLaws.{passed}
use Rattle.viper_run.proofs.CallLaws.{looked_up, found_has}
use Rattle.viper_run.proofs.UnitLaws.{no_method, a_method}
use Rattle.viper_run.proofs.units.run_numbered.Goals as goal

pub returns-in_err-method : goal.returns-in_err-method
returns-in_err-method c =
    passed _ _ c.from_residual.ensures.1 (no_method (program_of c.args.program.now) c.args.number (opening_of c.args.opening.now) _ (found_as_stops (λ m. method_of m.now) _ _ c.in_err-method.ensures
    ∙ ap found (looked_up method_of c.get.result c.deref.result.now c.args.number c.get.ensures.lookup.0 c.get.ensures.lookup.1 ∙ ap (λ ms. slice_get (map method_of ms) c.args.number) c.deref.ensures.value)))

pub start_method-requires-clause-method_within : goal.start_method-requires-clause-method_within
start_method-requires-clause-method_within c =
    found_has IsWithinMethod (program_of c.args.program.now).methods c.args.number _ c.requires.program_within.methods (found_as (λ m. method_of m.now) _ _ c.in_ok-method.ensures
    ∙ ap found (looked_up method_of c.get.result c.deref.result.now c.args.number c.get.ensures.lookup.0 c.get.ensures.lookup.1 ∙ ap (λ ms. slice_get (map method_of ms) c.args.number) c.deref.ensures.value))

pub returns : goal.returns
returns c =
    a_method (program_of c.args.program.now) c.args.number (opening_of c.args.opening.now) (method_of c.in_ok-method.method.now) (found_as (λ m. method_of m.now) _ _ c.in_ok-method.ensures
    ∙ ap found (looked_up method_of c.get.result c.deref.result.now c.args.number c.get.ensures.lookup.0 c.get.ensures.lookup.1 ∙ ap (λ ms. slice_get (map method_of ms) c.args.number) c.deref.ensures.value))
    c.start_method.ensures
