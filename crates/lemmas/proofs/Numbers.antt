-- Numbers.
use Rattle.std.proofs.Common.{Bool, ap, arith, false, inl, inr, neg_ℤ, pos, refl, suc, sym, true, unsigned_abs, zero, ℕ, ℤ, ◌+◌, ◌∙◌, ◌≡◌, ◌≢◌, ◌≤ℤ◌, ◌⊎◌}
use Rattle.std.proofs.lemmas.Bool.Decides.{Decides-int_eq}
use Rattle.std.proofs.lemmas.Cmp.{by_ranked, int_ranked}
use Rattle.std.proofs.lemmas.Int.{ints}
use Rattle.std.specs.Ordering.{int_cmp, int_eq, is_lt}

pub size_of_negative : (z : ℤ) → unsigned_abs (neg_ℤ z) ≡ unsigned_abs z
size_of_negative z = omega (arith, ints)

pub one_more : (n : ℕ) → 1 + n ≡ suc n
one_more n = omega arith

pub apart_from_zero : (b : ℤ) → b ≢ pos 0 → int_eq b (pos 0) ≡ false
apart_from_zero b ne = by_test (int_eq b (pos 0)) refl
  where
    by_test : (s : Bool) → int_eq b (pos 0) ≡ s → s ≡ false
    by_test true t = absurd (ne ((Decides-int_eq b (pos 0)).0 t))
    by_test false t = refl

pub same_or_not : (i j : ℕ) → (i ≡ j) ⊎ (i ≢ j)
same_or_not zero zero = inl refl
same_or_not zero (suc j) = inr (λ e. omega (arith, e))
same_or_not (suc i) zero = inr (λ e. omega (arith, e))
same_or_not (suc i) (suc j) = elim (same_or_not i j) [ inl e ↦ inl (ap suc e) | inr n ↦ inr (λ e. n (omega (arith, e))) ]

pub not_less : (x y : ℤ) → is_lt (int_cmp x y) ≡ false → y ≤ℤ x
not_less x y e =
    by_ranked _ _ _ (int_cmp x y) (int_ranked x y (int_cmp x y) refl) (λ less h. let f : true ≡ false = ap is_lt (sym less) ∙ e in cc) (λ equal h. omega (arith, ints)) (λ greater h. omega (arith, ints))
