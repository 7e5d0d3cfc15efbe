-- An operator looks at its left side, and then at its right side only if the left leaves its value open.
use Rattle.std.proofs.Common.{◌≡◌, refl, sym, ◌∙◌, Bool, Option, Some, None}
use Rattle.vb_base.specs.declared.places.Pos.{Pos}
use Rattle.vb_value.specs.Bound.{Bounded}
use Rattle.vb_value.specs.declared.values.Value.{Value}
use Rattle.vb_value.specs.declared.values.Value.TheVariants as variant
use Rattle.viper_core.specs.declared.exprs.Op.{Op}
use Rattle.viper_state.specs.Run.{Scene}
use Rattle.viper_meaning.specs.Ends.{Evaluated, is, then_with}
use Rattle.viper_meaning.specs.Operators.{Class, Lazy, Division, Plain, truth_of, settled, class_of, settled, settled_or, in_class, binary}
use Rattle.viper_eval.specs.Lazy.{settled_by, combined}
use Rattle.viper_eval.proofs.AnswerLaws.{nothing_first, then_same, then_is, then_then}

-- the rest of an operator, once it is known whether the left side tells it
abbrev pub decided : Class → Scene → Op → Evaluated Value → Pos → Value → Option Bool → Evaluated Value
decided c sc o right at v None = then_with right (λ w. combined c sc o v w at)
decided c sc o right at v (Some b) = is (variant.Bool b)

abbrev pub from_left : Class → Scene → Op → Evaluated Value → Pos → Value → Evaluated Value
from_left c sc o right at v = then_with (settled_by c o v) (λ d. decided c sc o right at v d)

lazy_way : (sc : Scene) (o : Op) (right : Evaluated Value) (at : Pos) (v : Value) (d : Option Bool) → settled_or d right ≡ then_with (is d) (λ d. decided Lazy sc o right at v d)
lazy_way sc o right at v (Some b) = refl
lazy_way sc o right at v None = sym (nothing_first (then_with right (λ w. is w)) ∙ then_is right)

class_way : (c : Class) (sc : Scene) (o : Op) (left right : Evaluated Value) (at : Pos) → in_class c Bounded sc o left right at ≡ then_with left (λ v. from_left c sc o right at v)
class_way Lazy sc o left right at =
    then_same left _ _ (λ v. then_same (truth_of v) _ _ (λ b. lazy_way sc o right at v (settled o b)) ∙ sym (then_then (truth_of v) (λ b. is (settled o b)) (λ d. decided Lazy sc o right at v d)))
class_way Division sc o left right at = then_same left _ _ (λ v. sym (nothing_first _))
class_way Plain sc o left right at = then_same left _ _ (λ v. sym (nothing_first _))

pub binary_way : (sc : Scene) (o : Op) (left right : Evaluated Value) (at : Pos) → binary Bounded sc o left right at ≡ then_with left (λ v. from_left (class_of o) sc o right at v)
binary_way sc o left right at = class_way (class_of o) sc o left right at
