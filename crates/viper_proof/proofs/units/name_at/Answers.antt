use Rattle.std.proofs.Common.{◌≡◌, ◌∙◌, IfOk, Some, slice_get, ap, sym, subst}
use Rattle.std.proofs.lemmas.Option.{same_Some}
use Rattle.viper_core.specs.View.{program_of}
use Rattle.viper_core.specs.declared.programs.Unit.{Unit}
use Rattle.viper_proof.specs.Shown.{name_of}
use Rattle.viper_proof.proofs.units.name_at.Goals as goal

pub returns : goal.returns
returns c y h =
    let p = program_of c.args.program.now in
    let n = c.args.unit in
    let x = c.unit_at-of.result in
    let there : slice_get p.units n ≡ Some x = ap (λ us. slice_get us n) (sym c.deref.ensures.value) ∙ c.unit_at-of.ensures in
    subst (λ (z : Unit). IfOk c.name_of.result (λ name. name ≡ name_of p z)) (same_Some x y (sym there ∙ h)) c.name_of.ensures
