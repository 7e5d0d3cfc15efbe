use Rattle.std.proofs.Common.{refl, ◌≡◌, ◌∙◌, ap, sym, pos}
use Rattle.std.proofs.lemmas.Option.{same_Some}
use Rattle.vb_value.specs.Fraction.{reduced, whole}
use Rattle.vb_value.specs.Gcd.{gcd}
use Rattle.viper_core.specs.Expr as e
use Rattle.viper_types.proofs.expressions.none.Goals as goal

none_whole : reduced (pos 0) 1 ≡ whole (pos 0)
unfolding reduced gcd
none_whole = refl

pub returns : goal.returns
returns c = ap e.Part (same_Some _ _ (sym c.in-Some.is ∙ c.make.ensures) ∙ none_whole)
