use Rattle.std.proofs.Common.{refl, ◌≡◌, ◌∙◌, ap, sym, pos}
use Rattle.std.proofs.lemmas.Option.{same_Some}
use Rattle.vb_value.specs.Fraction.{reduced, whole}
use Rattle.vb_value.specs.Gcd.{gcd}
use Rattle.viper_core.specs.Expr as e
use Rattle.viper_types.proofs.expressions.write.Goals as goal

write_whole : reduced (pos 1) 1 ≡ whole (pos 1)
unfolding reduced gcd
write_whole = refl

pub returns : goal.returns
returns c = ap e.Part (same_Some _ _ (sym c.in-Some.is ∙ c.make.ensures) ∙ write_whole)
