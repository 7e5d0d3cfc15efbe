-- An operation whose products fit keeps the bound, and some operations always fit.
use Rattle.std.proofs.Common.{◌≡◌, ℕ, ◌*◌, ◌<◌, ◌^◌, sym, ap, subst, ◌∙◌, arith, ℤ, pos, negsuc, neg_ℤ, ◌+ℤ◌, ◌-ℤ◌, ◌*ℤ◌, unsigned_abs, true, ◌&&◌, ◌≢◌}
use Rattle.std.proofs.lemmas.Int.{ints}
use Rattle.std.proofs.Math.Nat.{mul-pos}
use Rattle.std.proofs.Math.IntN.{*ℤ_comm}
use Rattle.std.proofs.lemmas.Bool.{and_from}
use Rattle.lemmas.proofs.Tests.{and_parts as parts}
use borrow.Author.Tests.{ltb-true, lt-ltb}
use Rattle.vb_value.specs.Bound.{IsWithin, is_within}
use Rattle.vb_value.specs.Fraction.{Fraction, IsWithinFraction, IsRepresentable, ratio, whole, none, write, sum, difference, product, quotient, quotient_by, fits_sum, fits_difference, fits_product, fits_quotient, fits_quotient_by, fits_order}
use Rattle.vb_value.proofs.IntLaws.{*ℤ_one, one-*ℤ, *ℤ_nonzero}
use Rattle.vb_value.proofs.FractionLaws.{IsRepresentable-reduced}

pub within_from : (z : ℤ) → is_within z ≡ true → IsWithin z
within_from z e = ltb-true (unsigned_abs z) (2 ^ 127) e

pub is_within_from : (z : ℤ) → IsWithin z → is_within z ≡ true
is_within_from z h = lt-ltb (unsigned_abs z) (2 ^ 127) h

-- ---- results within the bound

pub IsRepresentable-sum : (p q : Fraction) → 0 < p.den → 0 < q.den → fits_sum p q ≡ true → IsRepresentable (sum p q)
IsRepresentable-sum p q in_p in_q fits =
    let rest = parts _ _ (parts _ _ fits).1 in
    let last = parts _ _ rest.1 in
    IsRepresentable-reduced _ _ (within_from (p.num *ℤ pos q.den +ℤ q.num *ℤ pos p.den) last.1) (mul-pos in_p in_q) (within_from (pos (p.den * q.den)) last.0)

pub IsRepresentable-difference : (p q : Fraction) → 0 < p.den → 0 < q.den → fits_difference p q ≡ true → IsRepresentable (difference p q)
IsRepresentable-difference p q in_p in_q fits =
    let rest = parts _ _ (parts _ _ fits).1 in
    let last = parts _ _ rest.1 in
    IsRepresentable-reduced _ _ (within_from (p.num *ℤ pos q.den -ℤ q.num *ℤ pos p.den) last.1) (mul-pos in_p in_q) (within_from (pos (p.den * q.den)) last.0)

pub IsRepresentable-product : (p q : Fraction) → 0 < p.den → 0 < q.den → fits_product p q ≡ true → IsRepresentable (product p q)
IsRepresentable-product p q in_p in_q fits =
    let both = parts _ _ fits in
    IsRepresentable-reduced _ _ (within_from (p.num *ℤ q.num) both.0) (mul-pos in_p in_q) (within_from (pos (p.den * q.den)) both.1)

pub IsRepresentable-ratio : (n d : ℤ) → IsWithin n → IsWithin d → d ≢ pos 0 → IsRepresentable (ratio n d)
IsRepresentable-ratio n (pos d) in_n in_d nonzero = IsRepresentable-reduced n d in_n (positive d nonzero) in_d
  where
    positive : (d : ℕ) → pos d ≢ pos 0 → 0 < d
    positive d h = omega (arith, ints)
IsRepresentable-ratio n (negsuc d) in_n in_d nonzero = IsRepresentable-reduced (neg_ℤ n) _ (turned n in_n) (omega arith) in_d
  where
    turned : (n : ℤ) → IsWithin n → IsWithin (neg_ℤ n)
    turned n h = omega (arith, ints)

pub IsRepresentable-quotient : (p q : Fraction) → 0 < p.den → q.num ≢ pos 0 → fits_quotient p q ≡ true → IsRepresentable (quotient p q)
IsRepresentable-quotient p q in_p nonzero fits =
    let both = parts _ _ fits in
    IsRepresentable-ratio _ _ (within_from (p.num *ℤ pos q.den) both.0) (within_from (q.num *ℤ pos p.den) both.1) (*ℤ_nonzero q.num p.den in_p nonzero)

pub IsRepresentable-quotient_by : (p : Fraction) (n : ℤ) → 0 < p.den → IsWithin p.num → n ≢ pos 0 → fits_quotient_by p n ≡ true → IsRepresentable (quotient_by p n)
IsRepresentable-quotient_by p n in_p num nonzero fits =
    IsRepresentable-ratio p.num (pos p.den *ℤ n) num (within_from (pos p.den *ℤ n) fits) (λ e. *ℤ_nonzero n p.den in_p nonzero (*ℤ_comm n (pos p.den) ∙ e))

-- ---- what always fits

-- a comparison with none or with write
pub fits_order-none : (q : Fraction) → IsWithinFraction q → fits_order q none ≡ true
fits_order-none q h =
    and_from _ _ (is_within_from (q.num *ℤ pos 1) (subst IsWithin (sym (*ℤ_one q.num)) h.num)) (is_within_from (pos 0 *ℤ pos q.den) (omega arith))

pub fits_order-write : (q : Fraction) → IsWithinFraction q → fits_order q write ≡ true
fits_order-write q h =
    and_from _ _ (is_within_from (q.num *ℤ pos 1) (subst IsWithin (sym (*ℤ_one q.num)) h.num)) (is_within_from (pos 1 *ℤ pos q.den) (omega (arith, h.den)))

-- a product with write
pub fits_product-write : (q : Fraction) → IsWithinFraction q → fits_product write q ≡ true
fits_product-write q h =
    and_from _ _ (is_within_from (pos 1 *ℤ q.num) (subst IsWithin (sym (one-*ℤ q.num)) h.num)) (is_within_from (pos (1 * q.den)) (omega (arith, h.den)))

-- a quotient by a whole number fits where that by its fraction does
pub fits_quotient-whole : (p : Fraction) (n : ℤ) → IsWithinFraction p → fits_quotient_by p n ≡ fits_quotient p (whole n)
fits_quotient-whole p n h =
    let one : is_within (p.num *ℤ pos 1) ≡ true = is_within_from (p.num *ℤ pos 1) (subst IsWithin (sym (*ℤ_one p.num)) h.num) in
    ap is_within (*ℤ_comm (pos p.den) n) ∙ sym (ap (λ t. t && is_within (n *ℤ pos p.den)) one)
