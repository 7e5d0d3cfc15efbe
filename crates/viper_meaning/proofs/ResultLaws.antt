-- Results of operations are within the bound where their parts are.
use Rattle.std.proofs.Common.{◌≡◌, ◌≢◌, refl, arith, suc, zero, ◌/◌, ◌*◌, ℤ, pos, negsuc, neg_ℤ, ◌+ℤ◌, ◌-ℤ◌, ◌*ℤ◌, true}
use Rattle.std.proofs.Math.Nat.{div-le_self}
use Rattle.std.specs.Int.{int_div_euclid, int_rem_euclid}
use Rattle.vb_value.proofs.ProperLaws.{negative_within}
use Rattle.lemmas.proofs.Tests.{and_parts as parts}
use Rattle.vb_value.specs.Bound.{IsWithin}
use Rattle.vb_value.specs.Content.{Content, Pair, IsWithinContent}
use Rattle.vb_value.specs.Fraction.{Fraction, IsWithinFraction, ratio, whole, sum, difference, product, quotient_by, fits_sum, fits_difference, fits_product, fits_quotient_by}
use Rattle.vb_value.proofs.FractionLaws.{IsWithinFraction-reduced}
use Rattle.vb_value.proofs.RepresentableLaws.{within_from}

-- ---- numbers

pub whole_within : (n : ℤ) → IsWithin n → IsWithinFraction (whole n)
whole_within n h = record { num = h; den = omega arith }

pub sum_within : (p q : Fraction) → fits_sum p q ≡ true → IsWithinFraction (sum p q)
sum_within p q fits =
    let last = parts _ _ (parts _ _ (parts _ _ fits).1).1 in
    IsWithinFraction-reduced _ _ (within_from (p.num *ℤ pos q.den +ℤ q.num *ℤ pos p.den) last.1) (within_from (pos (p.den * q.den)) last.0)

pub difference_within : (p q : Fraction) → fits_difference p q ≡ true → IsWithinFraction (difference p q)
difference_within p q fits =
    let last = parts _ _ (parts _ _ (parts _ _ fits).1).1 in
    IsWithinFraction-reduced _ _ (within_from (p.num *ℤ pos q.den -ℤ q.num *ℤ pos p.den) last.1) (within_from (pos (p.den * q.den)) last.0)

pub product_within : (p q : Fraction) → fits_product p q ≡ true → IsWithinFraction (product p q)
product_within p q fits =
    let both = parts _ _ fits in
    IsWithinFraction-reduced _ _ (within_from (p.num *ℤ q.num) both.0) (within_from (pos (p.den * q.den)) both.1)

ratio_within : (n d : ℤ) → IsWithin n → IsWithin d → IsWithinFraction (ratio n d)
ratio_within n (pos d) num den = IsWithinFraction-reduced n d num den
ratio_within n (negsuc d) num den = IsWithinFraction-reduced (neg_ℤ n) (suc d) (negative_within n num) den

pub quotient_within : (p : Fraction) (n : ℤ) → IsWithinFraction p → fits_quotient_by p n ≡ true → IsWithinFraction (quotient_by p n)
quotient_within p n h fits = ratio_within p.num (pos p.den *ℤ n) h.num (within_from (pos p.den *ℤ n) fits)

pub div_within : (a d : ℤ) → IsWithin a → IsWithin (int_div_euclid a d)
div_within (pos a) (pos b) h = omega (arith, div-le_self a b)
div_within (pos a) (negsuc b) h = negative_within (pos (a / suc b)) (omega (arith, div-le_self a (suc b)))
div_within (negsuc a) (pos b) h = omega (arith, div-le_self a b)
div_within (negsuc a) (negsuc b) h = omega (arith, div-le_self a (suc b))

pub mod_within : (a d : ℤ) → IsWithin d → d ≢ pos 0 → IsWithin (int_rem_euclid a d)
mod_within (pos a) (pos zero) h nonzero = absurd (nonzero refl)
mod_within (pos a) (pos (suc d)) h nonzero = omega arith
mod_within (pos a) (negsuc d) h nonzero = omega arith
mod_within (negsuc a) d h nonzero = omega arith

-- ---- contents

pub left_within : (c d : Content) → IsWithinContent (Pair c d) → IsWithinContent c
left_within c d h = record { small = omega (arith, h.small); values = h.values.0 }

pub right_within : (c d : Content) → IsWithinContent (Pair c d) → IsWithinContent d
right_within c d h = record { small = omega (arith, h.small); values = h.values.1 }
