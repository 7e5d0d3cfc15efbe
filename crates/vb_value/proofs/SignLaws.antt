-- Laws of the signs of amounts: a comparison tells them, and what is added, multiplied, or taken where enough is there, is not negative.
use Rattle.std.proofs.Common.{◌≡◌, ℕ, zero, suc, ◌*◌, refl, sym, ap, ◌∙◌, arith, ℤ, pos, negsuc, ◌+ℤ◌, ◌-ℤ◌, ◌*ℤ◌, ◌≤ℤ◌, true, false}
use Rattle.std.proofs.lemmas.Int.{ints}
use Rattle.std.specs.Ordering.{int_cmp, is_lt, is_eq, is_gt}
use Rattle.lemmas.proofs.Numbers.{not_less}
use Rattle.vb_value.specs.Fraction.{Fraction, reduced, sum, difference, product, order, is_below_zero, is_above_zero, is_negative, is_positive, is_none, is_above_one, none, write}
use Rattle.vb_value.proofs.IntLaws.{*ℤ_one, one-*ℤ}
use Rattle.vb_value.proofs.OrderLaws.{is_greater}

not_below : (z : ℤ) → pos 0 ≤ℤ z → is_below_zero z ≡ false
not_below (pos n) h = refl
not_below (negsuc n) h = absurd (omega (arith, ints))

not_below-factor : (z : ℤ) (n : ℕ) → is_below_zero z ≡ false → is_below_zero (z *ℤ pos n) ≡ false
not_below-factor (pos m) n e = refl
not_below-factor (negsuc m) n e = cc

not_below-sum : (x y : ℤ) → is_below_zero x ≡ false → is_below_zero y ≡ false → is_below_zero (x +ℤ y) ≡ false
not_below-sum (pos m) (pos n) e f = refl
not_below-sum (pos m) (negsuc n) e f = cc
not_below-sum (negsuc m) y e f = cc

not_below-product : (x y : ℤ) → is_below_zero x ≡ false → is_below_zero y ≡ false → is_below_zero (x *ℤ y) ≡ false
not_below-product (pos m) (pos n) e f = refl
not_below-product (pos m) (negsuc n) e f = cc
not_below-product (negsuc m) y e f = cc

-- lowest terms keep the sign
not_below-reduced : (n : ℤ) (d : ℕ) → is_below_zero n ≡ false → is_negative (reduced n d) ≡ false
unfolding reduced
not_below-reduced (pos n) d e = refl
not_below-reduced (negsuc n) d e = cc

pub sum_not_negative : (p q : Fraction) → is_negative p ≡ false → is_negative q ≡ false → is_negative (sum p q) ≡ false
sum_not_negative p q e f =
    not_below-reduced (p.num *ℤ pos q.den +ℤ q.num *ℤ pos p.den) (p.den * q.den) (not_below-sum (p.num *ℤ pos q.den) (q.num *ℤ pos p.den) (not_below-factor p.num q.den e) (not_below-factor q.num p.den f))

pub product_not_negative : (p q : Fraction) → is_negative p ≡ false → is_negative q ≡ false → is_negative (product p q) ≡ false
product_not_negative p q e f = not_below-reduced (p.num *ℤ q.num) (p.den * q.den) (not_below-product p.num q.num e f)

pub difference_not_negative : (p q : Fraction) → is_lt (order p q) ≡ false → is_negative (difference p q) ≡ false
difference_not_negative p q e =
    let enough = not_less (p.num *ℤ pos q.den) (q.num *ℤ pos p.den) e in
    not_below-reduced (p.num *ℤ pos q.den -ℤ q.num *ℤ pos p.den) (p.den * q.den) (not_below (p.num *ℤ pos q.den -ℤ q.num *ℤ pos p.den) (omega (arith, ints, enough)))

above_not_below : (z : ℤ) → is_above_zero z ≡ true → is_below_zero z ≡ false
above_not_below (pos n) e = refl
above_not_below (negsuc n) e = cc

pub positive_not_negative : (q : Fraction) → is_positive q ≡ true → is_negative q ≡ false
positive_not_negative q e = above_not_below q.num e

-- ---- a comparison with none or with write

below_is_less : (z : ℤ) → is_below_zero z ≡ is_lt (int_cmp z (pos 0))
below_is_less (pos zero) = refl
below_is_less (pos (suc n)) = ap is_lt (sym (is_greater (pos (suc n)) (pos 0) (omega (arith, ints))))
below_is_less (negsuc n) = refl

above_is_greater : (z : ℤ) → is_above_zero z ≡ is_gt (int_cmp z (pos 0))
above_is_greater (pos zero) = refl
above_is_greater (pos (suc n)) = ap is_gt (sym (is_greater (pos (suc n)) (pos 0) (omega (arith, ints))))
above_is_greater (negsuc n) = refl

order_none : (q : Fraction) → order q none ≡ int_cmp q.num (pos 0)
order_none q = ap (λ z. int_cmp z (pos 0 *ℤ pos q.den)) (*ℤ_one q.num) ∙ ap (int_cmp q.num) zeros
  where
    zeros : pos 0 *ℤ pos q.den ≡ pos 0
    zeros = omega (arith, ints)

pub is_negative-order : (q : Fraction) → is_negative q ≡ is_lt (order q none)
is_negative-order q = below_is_less q.num ∙ ap is_lt (sym (order_none q))

pub is_positive-order : (q : Fraction) → is_positive q ≡ is_gt (order q none)
is_positive-order q = above_is_greater q.num ∙ ap is_gt (sym (order_none q))

pub is_none-order : (q : Fraction) → is_none q ≡ is_eq (order q none)
is_none-order q = ap is_eq (sym (order_none q))

pub is_above_one-order : (q : Fraction) → is_above_one q ≡ is_gt (order q write)
is_above_one-order q =
    sym (ap (λ z. is_gt (int_cmp z (pos 1 *ℤ pos q.den))) (*ℤ_one q.num) ∙ ap (λ z. is_gt (int_cmp q.num z)) (one-*ℤ (pos q.den)))
