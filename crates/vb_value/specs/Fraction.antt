-- Fractions as reduced pairs (Viper tutorial, "Permissions": permission amounts are the rational numbers).
-- Whole numbers have no limit here: sum, difference, product, quotient and order are those of cross products, and a
-- `fits_` test names the products that an operation makes.
use Rattle.std.specs.Prelude.{◌≡◌, ℕ, zero, suc, ◌*◌, ◌/◌, ◌<◌, ◌==◌, nat_lt, ℤ, pos, negsuc, neg_ℤ, ◌+ℤ◌, ◌-ℤ◌, ◌*ℤ◌, Bool, true, false, not, ◌&&◌, int_div, unsigned_abs}
use Rattle.std.specs.Ordering.{int_cmp, int_eq, is_gt}
use Rattle.std.specs.declared.cmp.Ordering.{Ordering}
use Rattle.vb_value.specs.Bound.{Bound, IfBounded, IsWithin, is_within}
use Rattle.vb_value.specs.Gcd.{gcd}

-- `num / den`
pub record Fraction : Type 0 where
  pub num : ℤ
  pub den : ℕ

-- the denominator is positive, and no number above 1 divides both
pub record IsReduced (q : Fraction) : Type 0 where
  pub positive : 0 < q.den
  pub coprime : gcd (unsigned_abs q.num) q.den ≡ 1

-- the same as a test
abbrev pub is_reduced : Fraction → Bool
is_reduced q = nat_lt 0 q.den && (gcd (unsigned_abs q.num) q.den == 1)

-- neither number is beyond MAX in magnitude
pub record IsWithinFraction (q : Fraction) : Type 0 where
  pub num : IsWithin q.num
  pub den : IsWithin (pos q.den)

-- what each fraction of the program keeps: it is in lowest terms and within the bound
pub record IsRepresentable (q : Fraction) : Type 0 where
  pub reduced : IsReduced q
  pub within : IsWithinFraction q

-- a fraction in lowest terms, which is within the bound where there is one
pub record IsProperFraction (b : Bound) (q : Fraction) : Type 0 where
  pub reduced : IsReduced q
  pub within : IfBounded b (IsWithinFraction q)

-- the fraction `n / d` in lowest terms, where d is positive
unfoldable pub reduced : ℤ → ℕ → Fraction
reduced n d = let g = gcd (unsigned_abs n) d in record { num = int_div n (pos g); den = d / g }

-- the same, where d may be negative: the sign goes to the numerator
abbrev pub ratio : ℤ → ℤ → Fraction
ratio n (pos d) = reduced n d
ratio n (negsuc d) = reduced (neg_ℤ n) (suc d)

-- a whole number
abbrev pub whole : ℤ → Fraction
whole n = record { num = n; den = 1 }

-- ---- amounts of permission

-- no permission
abbrev pub none : Fraction
none = whole (pos 0)

-- the whole permission
abbrev pub write : Fraction
write = whole (pos 1)

abbrev pub is_below_zero : ℤ → Bool
is_below_zero (pos n) = false
is_below_zero (negsuc n) = true

abbrev pub is_above_zero : ℤ → Bool
is_above_zero (pos zero) = false
is_above_zero (pos (suc n)) = true
is_above_zero (negsuc n) = false

-- the sign of an amount. To compare one with 0 is never Over.

abbrev pub is_negative : Fraction → Bool
is_negative q = is_below_zero q.num

abbrev pub is_positive : Fraction → Bool
is_positive q = is_above_zero q.num

abbrev pub is_none : Fraction → Bool
is_none q = int_eq q.num (pos 0)

-- more than the whole permission. To compare an amount with 1 is never Over.
abbrev pub is_above_one : Fraction → Bool
is_above_one q = is_gt (int_cmp q.num (pos q.den))

-- ---- the operations

-- `a/b + c/d = (a*d + c*b) / (b*d)`
abbrev pub sum : Fraction → Fraction → Fraction
sum p q = reduced (p.num *ℤ pos q.den +ℤ q.num *ℤ pos p.den) (p.den * q.den)

-- `a/b - c/d = (a*d - c*b) / (b*d)`
abbrev pub difference : Fraction → Fraction → Fraction
difference p q = reduced (p.num *ℤ pos q.den -ℤ q.num *ℤ pos p.den) (p.den * q.den)

-- `a/b * c/d = (a*c) / (b*d)`
abbrev pub product : Fraction → Fraction → Fraction
product p q = reduced (p.num *ℤ q.num) (p.den * q.den)

-- `(a/b) / (c/d) = (a*d) / (c*b)`, where c is not 0
abbrev pub quotient : Fraction → Fraction → Fraction
quotient p q = ratio (p.num *ℤ pos q.den) (q.num *ℤ pos p.den)

-- `(a/b) / n = a / (b*n)`, where n is not 0
abbrev pub quotient_by : Fraction → ℤ → Fraction
quotient_by p n = ratio p.num (pos p.den *ℤ n)

-- `a/b` against `c/d`: `a*d` against `c*b`
abbrev pub order : Fraction → Fraction → Ordering
order p q = int_cmp (p.num *ℤ pos q.den) (q.num *ℤ pos p.den)

-- ---- the products that are to be within MAX

-- the numbers of which a fraction can be made
abbrev pub fits_ratio : ℤ → ℤ → Bool
fits_ratio n d = is_within n && is_within d && not (int_eq d (pos 0))

-- `a*d`, `c*b`, `b*d` and the sum of the first two
abbrev pub fits_sum : Fraction → Fraction → Bool
fits_sum p q =
    is_within (p.num *ℤ pos q.den) && (is_within (q.num *ℤ pos p.den) && (is_within (pos (p.den * q.den)) && is_within (p.num *ℤ pos q.den +ℤ q.num *ℤ pos p.den)))

-- the same with their difference
abbrev pub fits_difference : Fraction → Fraction → Bool
fits_difference p q =
    is_within (p.num *ℤ pos q.den) && (is_within (q.num *ℤ pos p.den) && (is_within (pos (p.den * q.den)) && is_within (p.num *ℤ pos q.den -ℤ q.num *ℤ pos p.den)))

-- `a*c` and `b*d`
abbrev pub fits_product : Fraction → Fraction → Bool
fits_product p q = is_within (p.num *ℤ q.num) && is_within (pos (p.den * q.den))

-- `a*d` and `c*b`
abbrev pub fits_quotient : Fraction → Fraction → Bool
fits_quotient p q = is_within (p.num *ℤ pos q.den) && is_within (q.num *ℤ pos p.den)

-- `b*n`
abbrev pub fits_quotient_by : Fraction → ℤ → Bool
fits_quotient_by p n = is_within (pos p.den *ℤ n)

-- `a*d` and `c*b`
abbrev pub fits_order : Fraction → Fraction → Bool
fits_order p q = is_within (p.num *ℤ pos q.den) && is_within (q.num *ℤ pos p.den)
