-- Numbers of names in parts of the common denominator.
use Rattle.std.proofs.Common.{ℕ, zero, suc, ◌/◌, ◌<◌, Some, List, [], ◌∷◌, sym, ap, ◌∙◌, arith, pos, ◌*ℤ◌}
use Rattle.std.specs.Int.{◌∣◌}
use Rattle.std.proofs.Math.Nat.{div-mul_cancel, dvd-mul_right, dvd-mul_left_of_dvd, mul-pos}
use Rattle.vb_value.specs.Fraction.{IsReduced}
use Rattle.vb_value.proofs.IntLaws.{*ℤ_assoc}
use Rattle.vb_value.proofs.FractionLaws.{IsReduced-whole}
use Rattle.vb_value.proofs.OperationLaws.{IsRatio}
use Rattle.boogie_tree.specs.Program.{BType}
use Rattle.boogie_tree.specs.Value.{BScalar, Int, Real, BValue, One, Many}
use Rattle.boogie_tree.specs.Values.{IsEnvironment, IsOfType, IsReducedScalar, one}
use Rattle.cert_linear.specs.Numbers.{number_of, number_at, number_in, common, parts}

-- ---- the denominators

scalar_reduced : (v : BScalar) → IsReducedScalar v → IsReduced (number_of v)
scalar_reduced (Int n) r = IsReduced-whole n
scalar_reduced (Real q) r = r
scalar_reduced _ r = IsReduced-whole (pos 0)

value_reduced : (v : BValue) (u : BType) → IsOfType v u → IsReduced (number_at (Some v))
value_reduced (One v) u (one f) = scalar_reduced v f.reduced
value_reduced (Many m) u f = IsReduced-whole (pos 0)

pub number_reduced : (types : List BType) (values : List BValue) → IsEnvironment types values → (n : ℕ) → IsReduced (number_in values n)
number_reduced [] [] h n = IsReduced-whole (pos 0)
number_reduced (u ∷ types) (v ∷ values) h zero = value_reduced v u h.0
number_reduced (u ∷ types) (v ∷ values) h (suc n) = number_reduced types values h.1 n
number_reduced [] (v ∷ values) h n = absurd h
number_reduced (u ∷ types) [] h n = absurd h

pub common_positive : (types : List BType) (values : List BValue) → IsEnvironment types values → 0 < common values
common_positive [] [] h = omega arith
common_positive (u ∷ types) (v ∷ values) h = mul-pos (value_reduced v u h.0).positive (common_positive types values h.1)
common_positive [] (v ∷ values) h = absurd h
common_positive (u ∷ types) [] h = absurd h

divides : (values : List BValue) (n : ℕ) → (number_in values n).den ∣ common values
divides [] n = dvd-mul_right 1 1
divides (v ∷ values) zero = dvd-mul_right (number_at (Some v)).den (common values)
divides (v ∷ values) (suc n) = dvd-mul_left_of_dvd (number_in values n).den (divides values n) (number_at (Some v)).den

pub parts_are : (types : List BType) (values : List BValue) → IsEnvironment types values → (n : ℕ) → IsRatio (number_in values n) (parts values n) (common values)
parts_are types values h n =
    let q = number_in values n in
    record {
      den = (number_reduced types values h n).positive;
      positive = common_positive types values h;
      same = sym (*ℤ_assoc q.num (pos (common values / q.den)) (pos q.den) ∙ ap (λ k. q.num *ℤ pos k) (div-mul_cancel q.den (divides values n)));
    }
