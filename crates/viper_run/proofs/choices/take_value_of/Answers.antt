use Rattle.std.proofs.Common.{refl, ◌∙◌}
use Rattle.viper_meaning.specs.Run as run
use Rattle.viper_meaning.specs.Statements as m
use Rattle.viper_inhale.proofs.DoesLaws.{passed}
use Rattle.viper_inhale.proofs.FormLaws.{calm_stops, calm_goes}
use Rattle.viper_run.proofs.ChoiceLaws.{found_copied}
use Rattle.viper_run.proofs.choices.take_value_of.Goals as goal

pub returns-in_err-ty : goal.returns-in_err-ty
returns-in_err-ty c =
    passed _ _ c.from_residual.ensures.1 (calm_stops (λ u. m.taking_value u run.goes) refl _ (c.in_err-ty.ensures ∙ found_copied c.get.result c.args.types.now c.args.number c.copied.ensures c.get.ensures.lookup))

pub returns : goal.returns
returns c = calm_goes (λ u. m.taking_value u run.goes) refl (c.in_ok-ty.ensures ∙ found_copied c.get.result c.args.types.now c.args.number c.copied.ensures c.get.ensures.lookup) c.take_value.ensures
