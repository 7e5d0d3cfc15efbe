-- Operations on proper fractions give proper ones, where they fit.
use Rattle.std.proofs.Common.{◌≡◌, ◌≢◌, ap, ◌∙◌, arith, true, ℤ, pos, neg_ℤ, ◌*ℤ◌}
use Rattle.std.proofs.lemmas.Int.{ints}
use Rattle.std.proofs.Math.IntN.{*ℤ_comm}
use Rattle.std.proofs.Math.Nat.{mul-pos}
use Rattle.lemmas.proofs.Numbers.{size_of_negative}
use Rattle.vb_value.specs.Bound.{Bound, Unbounded, Bounded, IfBounded, IsWithin}
use Rattle.vb_value.specs.Fraction.{Fraction, IsReduced, IsProperFraction, IsRepresentable, whole, sum, difference, product, quotient, quotient_by, fits_sum, fits_difference, fits_product, fits_quotient, fits_quotient_by}
use Rattle.vb_value.specs.Gcd.{gcd}
use Rattle.vb_value.proofs.FractionLaws.{IsReduced-reduced, IsReduced-whole}
use Rattle.vb_value.proofs.QuotientLaws.{IsReduced-ratio}
use Rattle.vb_value.proofs.IntLaws.{*ℤ_nonzero}
use Rattle.vb_value.proofs.RepresentableLaws.{IsRepresentable-sum, IsRepresentable-difference, IsRepresentable-product, IsRepresentable-quotient, IsRepresentable-quotient_by}

-- ---- lowest terms

pub IsReduced-sum : (p q : Fraction) → IsReduced p → IsReduced q → IsReduced (sum p q)
IsReduced-sum p q in_p in_q = IsReduced-reduced _ _ (mul-pos in_p.positive in_q.positive)

pub IsReduced-difference : (p q : Fraction) → IsReduced p → IsReduced q → IsReduced (difference p q)
IsReduced-difference p q in_p in_q = IsReduced-reduced _ _ (mul-pos in_p.positive in_q.positive)

pub IsReduced-product : (p q : Fraction) → IsReduced p → IsReduced q → IsReduced (product p q)
IsReduced-product p q in_p in_q = IsReduced-reduced _ _ (mul-pos in_p.positive in_q.positive)

pub IsReduced-quotient : (p q : Fraction) → IsReduced p → q.num ≢ pos 0 → IsReduced (quotient p q)
IsReduced-quotient p q in_p nonzero = IsReduced-ratio (p.num *ℤ pos q.den) (q.num *ℤ pos p.den) (*ℤ_nonzero q.num p.den in_p.positive nonzero)

pub IsReduced-quotient_by : (p : Fraction) (n : ℤ) → IsReduced p → n ≢ pos 0 → IsReduced (quotient_by p n)
IsReduced-quotient_by p n in_p nonzero =
    IsReduced-ratio p.num (pos p.den *ℤ n) (λ e. *ℤ_nonzero n p.den in_p.positive nonzero (*ℤ_comm n (pos p.den) ∙ e))

pub IsReduced-negative : (q : Fraction) → IsReduced q → IsReduced (record { num = neg_ℤ q.num; den = q.den })
IsReduced-negative q h = record { positive = h.positive; coprime = ap (λ m. gcd m q.den) (size_of_negative q.num) ∙ h.coprime }

-- ---- and the bound, where there is one

representable : (q : Fraction) → IsRepresentable q → IsProperFraction Bounded q
representable q r = record { reduced = r.reduced; within = r.within }

pub proper_whole : (b : Bound) (n : ℤ) → IfBounded b (IsWithin n) → IsProperFraction b (whole n)
proper_whole Unbounded n w = record { reduced = IsReduced-whole n; within = tt }
proper_whole Bounded n w = record { reduced = IsReduced-whole n; within = record { num = w; den = omega arith } }

pub negative_within : (n : ℤ) → IsWithin n → IsWithin (neg_ℤ n)
negative_within n h = omega (arith, ints)

pub proper_negative : (b : Bound) (q : Fraction) → IsProperFraction b q → IsProperFraction b (record { num = neg_ℤ q.num; den = q.den })
proper_negative Unbounded q p = record { reduced = IsReduced-negative q p.reduced; within = tt }
proper_negative Bounded q p = record { reduced = IsReduced-negative q p.reduced; within = record { num = negative_within q.num p.within.num; den = p.within.den } }

pub proper_sum : (b : Bound) (p q : Fraction) → IsProperFraction b p → IsProperFraction b q → IfBounded b (fits_sum p q ≡ true) → IsProperFraction b (sum p q)
proper_sum Unbounded p q in_p in_q fits = record { reduced = IsReduced-sum p q in_p.reduced in_q.reduced; within = tt }
proper_sum Bounded p q in_p in_q fits = representable (sum p q) (IsRepresentable-sum p q in_p.reduced.positive in_q.reduced.positive fits)

pub proper_difference : (b : Bound) (p q : Fraction) → IsProperFraction b p → IsProperFraction b q → IfBounded b (fits_difference p q ≡ true) → IsProperFraction b (difference p q)
proper_difference Unbounded p q in_p in_q fits = record { reduced = IsReduced-difference p q in_p.reduced in_q.reduced; within = tt }
proper_difference Bounded p q in_p in_q fits = representable (difference p q) (IsRepresentable-difference p q in_p.reduced.positive in_q.reduced.positive fits)

pub proper_product : (b : Bound) (p q : Fraction) → IsProperFraction b p → IsProperFraction b q → IfBounded b (fits_product p q ≡ true) → IsProperFraction b (product p q)
proper_product Unbounded p q in_p in_q fits = record { reduced = IsReduced-product p q in_p.reduced in_q.reduced; within = tt }
proper_product Bounded p q in_p in_q fits = representable (product p q) (IsRepresentable-product p q in_p.reduced.positive in_q.reduced.positive fits)

pub proper_quotient : (b : Bound) (p q : Fraction) → IsProperFraction b p → q.num ≢ pos 0 → IfBounded b (fits_quotient p q ≡ true) → IsProperFraction b (quotient p q)
proper_quotient Unbounded p q in_p nonzero fits = record { reduced = IsReduced-quotient p q in_p.reduced nonzero; within = tt }
proper_quotient Bounded p q in_p nonzero fits = representable (quotient p q) (IsRepresentable-quotient p q in_p.reduced.positive nonzero fits)

pub proper_quotient_by : (b : Bound) (p : Fraction) (n : ℤ) → IsProperFraction b p → n ≢ pos 0 → IfBounded b (fits_quotient_by p n ≡ true) → IsProperFraction b (quotient_by p n)
proper_quotient_by Unbounded p n in_p nonzero fits = record { reduced = IsReduced-quotient_by p n in_p.reduced nonzero; within = tt }
proper_quotient_by Bounded p n in_p nonzero fits = representable (quotient_by p n) (IsRepresentable-quotient_by p n in_p.reduced.positive in_p.within.num nonzero fits)
