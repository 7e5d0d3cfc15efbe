use Rattle.std.proofs.Common.{◌≡◌, ◌∙◌, IfOk, slice_get, ap, sym, subst}
use Rattle.std.proofs.lemmas.Option.{same_Some}
use Rattle.viper_core.specs.View.{program_of}
use Rattle.viper_core.specs.declared.programs.Unit.{Unit}
use Rattle.boogie_tree.specs.Whole.{locals_of}
use Rattle.enc_units.specs.Units.{unit_procedure}
use Rattle.enc_stream.proofs.stream.unit_locals.Goals as goal

pub returns : goal.returns
returns c = λ x there.
    let same = same_Some c.unit_at-of.result x (sym c.unit_at-of.ensures ∙ ap (λ us. slice_get us c.args.unit) c.deref.ensures.value ∙ there) in
    subst (λ (y : Unit). IfOk c.locals_of_unit.result (λ locals. locals_of locals.items ≡ (unit_procedure (program_of c.args.program.now) y).locals)) same c.locals_of_unit.ensures
