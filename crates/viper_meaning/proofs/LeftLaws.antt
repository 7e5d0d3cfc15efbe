-- What is left of an amount where enough is there: no more than the whole where there was no more, and nothing of nothing.
use Rattle.std.proofs.Common.{◌≡◌, refl, sym, ap, ◌∙◌, subst, arith, ℕ, zero, suc, ◌*◌, ◌/◌, ◌≤◌, ◌<◌, ℤ, pos, negsuc, neg_ℤ, ◌-ℤ◌, ◌*ℤ◌, ◌≤ℤ◌, true, false}
use Rattle.std.proofs.Math.Nat.{div-le_self, div-mul-le_self, le-div_iff_mul-le, le_trans, mul-le-mul_right}
use Rattle.std.proofs.lemmas.Int.{ints}
use Rattle.std.proofs.lemmas.Bool.Decides.{Decides-int_eq}
use Rattle.std.proofs.lemmas.Cmp.{int_ranked, by_ranked}
use Rattle.std.specs.Ordering.{int_cmp, is_lt, is_gt}
use Rattle.lemmas.proofs.Numbers.{not_less}
use Rattle.vb_value.specs.Fraction.{Fraction, reduced, difference, order, is_below_zero, is_negative, is_none, is_above_one}
use Rattle.vb_value.specs.Gcd.{gcd}

no_more : (x y : ℤ) → is_gt (int_cmp x y) ≡ false → x ≤ℤ y
no_more x y e =
    by_ranked _ _ _ (int_cmp x y) (int_ranked x y (int_cmp x y) refl) (λ less h. omega (arith, ints)) (λ equal h. omega (arith, ints)) (λ greater h. let f : true ≡ false = ap is_gt (sym greater) ∙ e in cc)

at_most : (x y : ℤ) → x ≤ℤ y → is_gt (int_cmp x y) ≡ false
at_most x y h =
    by_ranked _ _ _ (int_cmp x y) (int_ranked x y (int_cmp x y) refl) (λ e less. ap is_gt e) (λ e same. ap is_gt e) (λ e more. absurd (omega (arith, ints)))

quotient_at_most : (n d g : ℕ) → n ≤ d → n / g ≤ d / g
quotient_at_most n d zero h = omega arith
quotient_at_most n d (suc g) h =
    let some : 0 < suc g = omega arith in
    (le-div_iff_mul-le some).1 (le_trans (div-mul-le_self n (suc g)) h)

reduced_at_most : (n : ℤ) (d : ℕ) → n ≤ℤ pos d → is_above_one (reduced n d) ≡ false
unfolding reduced
reduced_at_most (pos n) d h = let less : n ≤ d = omega (arith, ints, h) in at_most (pos (n / gcd n d)) (pos (d / gcd n d)) (omega (arith, ints, quotient_at_most n d (gcd n d) less))
reduced_at_most (negsuc n) d h = at_most (neg_ℤ (pos (suc n / gcd (suc n) d))) (pos (d / gcd (suc n) d)) (omega (arith, ints))

reduced_none : (n : ℤ) (d : ℕ) → n ≡ pos 0 → is_none (reduced n d) ≡ true
unfolding reduced
reduced_none n d e = subst (λ z. is_none (reduced z d) ≡ true) (sym e) (zero_is (0 / gcd 0 d) (div-le_self 0 (gcd 0 d)))
  where
    zero_is : (x : ℕ) → x ≤ 0 → is_none (record { num = pos x; den = d / gcd 0 d }) ≡ true
    zero_is x h = (Decides-int_eq (pos x) (pos 0)).1 (omega (arith, ints, h))

left_at_most : (x y : ℤ) (d e : ℕ) → x ≤ℤ pos d → is_below_zero y ≡ false → (x *ℤ pos e -ℤ y *ℤ pos d) ≤ℤ pos (d * e)
left_at_most (pos a) (pos c) d e h f = let less : a ≤ d = omega (arith, ints, h) in omega (arith, ints, mul-le-mul_right e less)
left_at_most (negsuc a) (pos c) d e h f = omega (arith, ints)
left_at_most x (negsuc c) d e h f = cc

pub left_not_above : (p q : Fraction) → is_above_one p ≡ false → is_negative q ≡ false → is_above_one (difference p q) ≡ false
left_not_above p q h f = reduced_at_most (p.num *ℤ pos q.den -ℤ q.num *ℤ pos p.den) (p.den * q.den) (left_at_most p.num q.num p.den q.den (no_more p.num (pos p.den) h) f)

left_of_zero : (x y : ℤ) (d e : ℕ) → x ≡ pos 0 → is_below_zero y ≡ false → (y *ℤ pos d) ≤ℤ (x *ℤ pos e) → (x *ℤ pos e -ℤ y *ℤ pos d) ≡ pos 0
left_of_zero (pos zero) (pos c) d e z f h = omega (arith, ints, h)
left_of_zero (pos (suc a)) y d e z f h = cc
left_of_zero (negsuc a) y d e z f h = cc
left_of_zero x (negsuc c) d e z f h = cc

pub nothing_left : (p q : Fraction) → is_none p ≡ true → is_negative q ≡ false → is_lt (order p q) ≡ false → is_none (difference p q) ≡ true
nothing_left p q z f h =
    reduced_none (p.num *ℤ pos q.den -ℤ q.num *ℤ pos p.den) (p.den * q.den)
    (left_of_zero p.num q.num p.den q.den ((Decides-int_eq p.num (pos 0)).0 z) f (not_less (p.num *ℤ pos q.den) (q.num *ℤ pos p.den) h))
