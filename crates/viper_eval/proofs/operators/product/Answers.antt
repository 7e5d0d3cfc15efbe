-- A product with a Perm.
use Rattle.std.proofs.Common.{◌≡◌, ap, ◌∙◌, subst}
use Rattle.vb_value.specs.Bound.{Bounded}
use Rattle.vb_value.specs.Fraction.{whole}
use Rattle.vb_value.specs.Value.{IsWithinValue}
use Rattle.vb_value.proofs.BoundLaws.{read_back}
use Rattle.viper_meaning.specs.Operators.{fraction_product}
use Rattle.viper_eval.proofs.operators.product.Goals as goal

pub returns-in-Perm-right : goal.returns-in-Perm-right
returns-in-Perm-right c =
    let first : c.fraction.result ≡ whole c.in-Int.x = c.fraction.ensures ∙ ap whole (read_back c.in-Int.x (subst IsWithinValue c.in-Int.is c.requires.left_within)) in
    rw (c.in-Int.is, c.in-Perm-right.is) (c.fraction_product.ensures ∙ ap (λ p. fraction_product Bounded p c.in-Perm-right.q c.args.at) first)

pub returns-in-Int-right-2 : goal.returns-in-Int-right-2
returns-in-Int-right-2 c =
    let second : c.fraction-in-Int-right-2.result ≡ whole c.in-Int-right-2.y =
    c.fraction-in-Int-right-2.ensures ∙ ap whole (read_back c.in-Int-right-2.y (subst IsWithinValue c.in-Int-right-2.is c.requires.right_within)) in
    rw (c.in-Perm.is, c.in-Int-right-2.is) (c.fraction_product-in-Int-right-2.ensures ∙ ap (λ q. fraction_product Bounded c.in-Perm.p q c.args.at) second)

pub returns-in-Perm-right-2 : goal.returns-in-Perm-right-2
returns-in-Perm-right-2 c = rw (c.in-Perm.is, c.in-Perm-right-2.is) c.fraction_product-in-Perm-right-2.ensures
