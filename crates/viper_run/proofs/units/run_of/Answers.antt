use Rattle.std.proofs.Common.{ap, ◌∙◌, slice_get}
use Rattle.lemmas.proofs.Options.{looked_at}
use Rattle.viper_core.specs.View.{program_of}
use Rattle.viper_state.specs.View.{opening_of}
use Rattle.viper_meaning.specs.Ends.{found}
use Rattle.viper_inhale.proofs.DoesLaws.{passed}
use Rattle.viper_run.proofs.UnitLaws.{no_unit, a_unit}
use Rattle.viper_run.proofs.units.run_of.Goals as goal

pub returns-in_err-number : goal.returns-in_err-number
returns-in_err-number c =
    passed _ _ c.from_residual.ensures.1 (no_unit (program_of c.args.program.now) c.args.number (opening_of c.args.opening.now) _ (c.in_err-number.ensures
    ∙ ap found (c.copied.ensures ∙ looked_at c.get.result c.deref.result.now c.args.number c.get.ensures.lookup.0 c.get.ensures.lookup.1 ∙ ap (λ us. slice_get us c.args.number) c.deref.ensures.value)))

pub returns-in-Method : goal.returns-in-Method
returns-in-Method c =
    a_unit (program_of c.args.program.now) c.args.number (opening_of c.args.opening.now) _ _ (c.in_ok-number.ensures
    ∙ ap found (c.copied.ensures ∙ looked_at c.get.result c.deref.result.now c.args.number c.get.ensures.lookup.0 c.get.ensures.lookup.1 ∙ ap (λ us. slice_get us c.args.number) c.deref.ensures.value))
    c.in-Method.is c.run_numbered.ensures

pub returns-in-Predicate : goal.returns-in-Predicate
returns-in-Predicate c =
    a_unit (program_of c.args.program.now) c.args.number (opening_of c.args.opening.now) _ _ (c.in_ok-number.ensures
    ∙ ap found (c.copied.ensures ∙ looked_at c.get.result c.deref.result.now c.args.number c.get.ensures.lookup.0 c.get.ensures.lookup.1 ∙ ap (λ us. slice_get us c.args.number) c.deref.ensures.value))
    c.in-Predicate.is c.run_predicate.ensures
