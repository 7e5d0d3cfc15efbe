-- Division with a remainder that is not negative: std's two functions are such a quotient and remainder, and there is
-- only one such pair.
use Rattle.std.proofs.Common.{◌≡◌, ◌≢◌, ℕ, zero, suc, ◌+◌, ◌-◌, ◌*◌, ◌/◌, ◌%◌, ◌<◌, refl, sym, ap, ◌∙◌, arith, ℤ, pos, negsuc, neg_ℤ, ◌+ℤ◌, ◌*ℤ◌, ◌≤ℤ◌, ◌<ℤ◌, unsigned_abs}
use Rattle.std.specs.Int.{int_div_euclid, int_rem_euclid}
use Rattle.std.proofs.Common.{inl, inr}
use Rattle.std.proofs.lemmas.Bool.{cases_order}
use Rattle.std.proofs.lemmas.Int.{ints}
use borrow.Author.Differences.{up, down, same_in, sum_is_lem, product_is}
use Rattle.std.proofs.Math.Nat.{div-add-mod, mul-le-mul_left, mul-zero}
use Rattle.vb_value.specs.Euclid.{IsEuclidean}

by_negative : (a d k r : ℕ) → suc d * k + r ≡ a → pos a ≡ negsuc d *ℤ neg_ℤ (pos k) +ℤ pos r
by_negative a d zero r h = rw (mul-zero (suc d)) (ap pos (omega arith))
by_negative a d (suc k) r h = ap pos (omega arith)

of_negative : (a m r : ℕ) → m ≡ suc (a + r) → negsuc a ≡ neg_ℤ (pos m) +ℤ pos r
of_negative a zero r h = absurd (omega arith)
of_negative a (suc m) r h = omega (arith, ints)

-- `div_euclid` and `rem_euclid` are the quotient and the remainder
pub IsEuclidean-euclid : (a d : ℤ) → d ≢ pos 0 → IsEuclidean a d (int_div_euclid a d) (int_rem_euclid a d)
IsEuclidean-euclid (pos a) (pos zero) h = absurd (h refl)
IsEuclidean-euclid (pos a) (pos (suc d)) h =
    let e = div-add-mod a (suc d) in
    record { whole = omega (arith, ints); not_negative = omega (arith, ints); small = omega (arith, ints) }
IsEuclidean-euclid (pos a) (negsuc d) h =
    record { whole = by_negative a d (a / suc d) (a % suc d) (div-add-mod a (suc d)); not_negative = omega (arith, ints); small = omega (arith, ints) }
IsEuclidean-euclid (negsuc a) (pos zero) h = absurd (h refl)
IsEuclidean-euclid (negsuc a) (pos (suc d)) h =
    let e = div-add-mod a (suc d) in
    let r : a % suc d < suc d = omega arith in
    record { whole = of_negative a (suc d * suc (a / suc d)) (suc d - 1 - a % suc d) (omega arith); not_negative = omega (arith, ints); small = omega (arith, ints) }
IsEuclidean-euclid (negsuc a) (negsuc d) h =
    let e = div-add-mod a (suc d) in
    let r : a % suc d < suc d = omega arith in
    record { whole = of_negative a (suc d * suc (a / suc d)) (suc d - 1 - a % suc d) (omega arith); not_negative = omega (arith, ints); small = omega (arith, ints) }

-- a smaller quotient would need a remainder of |d| or more
apart : (d q r p s : ℤ) → d *ℤ q +ℤ r ≡ d *ℤ p +ℤ s → pos 0 ≤ℤ r → r <ℤ pos (unsigned_abs d) → pos 0 ≤ℤ s → s <ℤ pos (unsigned_abs d) → up q + down p < up p + down q → ⊥
apart (pos d) q r p s e nr lr ns ls h =
    let m = mul-le-mul_left d h in
    omega (arith, ints, m)
apart (negsuc d) q r p s e nr lr ns ls h =
    let m = mul-le-mul_left (suc d) h in
    omega (arith, ints, m, sum_is_lem (negsuc d *ℤ q) r, product_is (negsuc d) q, sum_is_lem (negsuc d *ℤ p) s, product_is (negsuc d) p)

-- there is only one quotient and one remainder
pub same_from_IsEuclidean : {a d q r p s : ℤ} → IsEuclidean a d q r → IsEuclidean a d p s → (q ≡ p) × (r ≡ s)
same_from_IsEuclidean {a} {d} {q} {r} {p} {s} x y =
    let e : d *ℤ q +ℤ r ≡ d *ℤ p +ℤ s = sym x.whole ∙ y.whole in
    elim (cases_order (up q + down p) (up p + down q)) [
      | inl same ↦ let t : q ≡ p = same_in q p same in (t, cancelled d q r s (e ∙ ap (λ z. d *ℤ z +ℤ s) (sym t)))
      | inr other ↦ elim other [
        | inl below ↦ absurd (apart d q r p s e x.not_negative x.small y.not_negative y.small below)
        | inr above ↦ absurd (apart d p s q r (sym e) y.not_negative y.small x.not_negative x.small above)
      ]
    ]
  where
    cancelled : (d q r s : ℤ) → d *ℤ q +ℤ r ≡ d *ℤ q +ℤ s → r ≡ s
    cancelled d q r s h = omega (arith, ints)
