-- Laws of the order of fractions with positive denominators.
use Rattle.std.proofs.Common.{◌≡◌, true, ℕ, zero, suc, ◌+◌, ◌*◌, ◌<◌, refl, sym, ap, ◌∙◌, subst, arith, ℤ, pos, negsuc, ◌+ℤ◌, ◌*ℤ◌, ◌<ℤ◌}
use Rattle.std.specs.Ordering.{int_cmp, is_eq, MatchOrdering, ordering_reverse}
use Rattle.std.specs.declared.cmp.Ordering.TheVariants.{Less, Equal, Greater}
use Rattle.std.proofs.lemmas.Int.{ints}
use Rattle.std.proofs.lemmas.Cmp.{int_ranked, int_cmp_total, tied_itself, by_ranked}
use Rattle.std.proofs.lemmas.Bool.Decides.{Decides-int_eq}
use Rattle.std.proofs.Math.IntN.{*ℤ_comm}
use Rattle.std.proofs.Math.Nat.{mul-lt-mul_of_pos_right, mul-pos}
use borrow.Author.Differences.{up, down}
use Rattle.vb_value.specs.Fraction.{Fraction, IsReduced, order, sum, product, is_above_zero, is_positive}
use Rattle.vb_value.proofs.IntLaws.{*ℤ_assoc, *ℤ_swap, +ℤ-*ℤ}
use Rattle.vb_value.proofs.FractionLaws.{same_from_cross}
use Rattle.vb_value.proofs.OperationLaws.{IsRatio, IsRatio-reduced}

-- ---- the order of whole numbers

less_from : (x y : ℤ) → int_cmp x y ≡ Less → x <ℤ y
less_from x y e = subst (λ o. MatchOrdering o (x <ℤ y) (x ≡ y) (y <ℤ x)) e (int_ranked x y (int_cmp x y) refl)

is_less : (x y : ℤ) → x <ℤ y → int_cmp x y ≡ Less
is_less x y h =
    by_ranked _ _ _ (int_cmp x y) (int_ranked x y (int_cmp x y) refl) (λ e _. e) (λ _ s. absurd (omega (arith, ints))) (λ _ g. absurd (omega (arith, ints)))

is_equal : (x y : ℤ) → x ≡ y → int_cmp x y ≡ Equal
is_equal x y e = ap (int_cmp x) (sym e) ∙ tied_itself int_cmp_total x

pub is_greater : (x y : ℤ) → y <ℤ x → int_cmp x y ≡ Greater
is_greater x y h = int_cmp_total.antisymm x y ∙ ap ordering_reverse (is_less y x h)

-- two pairs of numbers that lie alike
lies_alike : (x y v w : ℤ) → (x <ℤ y → v <ℤ w) → (x ≡ y → v ≡ w) → (y <ℤ x → w <ℤ v) → int_cmp v w ≡ int_cmp x y
lies_alike x y v w less equal greater =
    by_ranked _ _ _ (int_cmp x y) (int_ranked x y (int_cmp x y) refl) (λ e h. is_less v w (less h) ∙ sym e) (λ e h. is_equal v w (equal h) ∙ sym e) (λ e h. is_greater v w (greater h) ∙ sym e)

scale_less : (x y : ℤ) (k : ℕ) → 0 < k → x <ℤ y → (x *ℤ pos k) <ℤ (y *ℤ pos k)
scale_less x y k h l =
    let parts : up x + down y < up y + down x = omega (arith, ints) in
    omega (arith, ints, mul-lt-mul_of_pos_right parts h)

-- a positive factor, and a number that is added on both sides, change nothing
int_cmp-scale : (x y : ℤ) (k : ℕ) → 0 < k → int_cmp (x *ℤ pos k) (y *ℤ pos k) ≡ int_cmp x y
int_cmp-scale x y k h =
    lies_alike x y _ _ (scale_less x y k h) (λ e. ap (λ z. z *ℤ pos k) e) (scale_less y x k h)

int_cmp-shift : (x y z : ℤ) → int_cmp (x +ℤ z) (y +ℤ z) ≡ int_cmp x y
int_cmp-shift x y z = lies_alike x y _ _ (λ l. omega (arith, ints)) (λ e. ap (λ v. v +ℤ z) e) (λ g. omega (arith, ints))

-- ---- the order of fractions

pub order_antisymm : (p q : Fraction) → order p q ≡ ordering_reverse (order q p)
order_antisymm p q = int_cmp_total.antisymm (p.num *ℤ pos q.den) (q.num *ℤ pos p.den)

pub order_self : (p : Fraction) → order p p ≡ Equal
order_self p = tied_itself int_cmp_total (p.num *ℤ pos p.den)

-- fractions in lowest terms are Equal only where they are one
pub same_from_order : (p q : Fraction) → IsReduced p → IsReduced q → order p q ≡ Equal → p ≡ q
same_from_order p q in_p in_q e = same_from_cross p q in_p in_q ((Decides-int_eq _ _).0 (ap is_eq e))

-- the order of two ratios in any terms
pub order_from : {p q : Fraction} {a c : ℤ} {b d : ℕ} → IsRatio p a b → IsRatio q c d → order p q ≡ int_cmp (a *ℤ pos d) (c *ℤ pos b)
order_from {p} {q} {a} {c} {b} {d} x y =
    sym (int_cmp-scale (p.num *ℤ pos q.den) (q.num *ℤ pos p.den) (b * d) (mul-pos x.positive y.positive)) ∙ ap (λ z. int_cmp z ((q.num *ℤ pos p.den) *ℤ pos (b * d))) left ∙ ap (int_cmp ((a *ℤ pos d) *ℤ pos (p.den * q.den))) right ∙ int_cmp-scale (a *ℤ pos d) (c *ℤ pos b) (p.den * q.den) (mul-pos x.den y.den)
  where
    left : (p.num *ℤ pos q.den) *ℤ pos (b * d) ≡ (a *ℤ pos d) *ℤ pos (p.den * q.den)
    left =
        let e = simp *ℤ_assoc at (ap (λ z. z *ℤ pos (q.den * d)) x.same) in
        simp *ℤ_assoc (omega (arith, ints, e))

    right : (q.num *ℤ pos p.den) *ℤ pos (b * d) ≡ (c *ℤ pos b) *ℤ pos (p.den * q.den)
    right =
        let e = simp *ℤ_assoc at (ap (λ z. z *ℤ pos (p.den * b)) y.same) in
        simp *ℤ_assoc (omega (arith, ints, e))

pub order_trans : (p q r : Fraction) → 0 < p.den → 0 < q.den → 0 < r.den → order p q ≡ Less → order q r ≡ Less → order p r ≡ Less
order_trans p q r in_p in_q in_r e f =
    let below = simp *ℤ_assoc at (scale_less _ _ r.den in_r (less_from (p.num *ℤ pos q.den) (q.num *ℤ pos p.den) e)) in
    let above = simp *ℤ_assoc at (scale_less _ _ p.den in_p (less_from (q.num *ℤ pos r.den) (r.num *ℤ pos q.den) f)) in
    sym (int_cmp-scale (p.num *ℤ pos r.den) (r.num *ℤ pos p.den) q.den in_q) ∙ is_less ((p.num *ℤ pos r.den) *ℤ pos q.den) ((r.num *ℤ pos p.den) *ℤ pos q.den) (simp *ℤ_assoc (omega (arith, ints, below, above)))

-- to add the same on both sides changes nothing
pub order-sum : (p q r : Fraction) → 0 < p.den → 0 < q.den → 0 < r.den → order (sum p r) (sum q r) ≡ order p q
order-sum p q r in_p in_q in_r =
    order_from (IsRatio-reduced _ _ (mul-pos in_p in_r)) (IsRatio-reduced _ _ (mul-pos in_q in_r)) ∙ ap (λ z. int_cmp z ((q.num *ℤ pos r.den +ℤ r.num *ℤ pos q.den) *ℤ pos (p.den * r.den))) left ∙ ap (int_cmp ((p.num *ℤ pos q.den) *ℤ pos (r.den * r.den) +ℤ r.num *ℤ pos (p.den * q.den * r.den))) right ∙ int_cmp-shift ((p.num *ℤ pos q.den) *ℤ pos (r.den * r.den)) ((q.num *ℤ pos p.den) *ℤ pos (r.den * r.den)) (r.num *ℤ pos (p.den * q.den * r.den)) ∙ int_cmp-scale (p.num *ℤ pos q.den) (q.num *ℤ pos p.den) (r.den * r.den) (mul-pos in_r in_r)
  where
    left : (p.num *ℤ pos r.den +ℤ r.num *ℤ pos p.den) *ℤ pos (q.den * r.den) ≡ (p.num *ℤ pos q.den) *ℤ pos (r.den * r.den) +ℤ r.num *ℤ pos (p.den * q.den * r.den)
    left = simp (+ℤ-*ℤ, *ℤ_assoc) (omega (arith, ints))

    right : (q.num *ℤ pos r.den +ℤ r.num *ℤ pos q.den) *ℤ pos (p.den * r.den) ≡ (q.num *ℤ pos p.den) *ℤ pos (r.den * r.den) +ℤ r.num *ℤ pos (p.den * q.den * r.den)
    right = simp (+ℤ-*ℤ, *ℤ_assoc) (omega (arith, ints))

positive_is : (z : ℤ) → is_above_zero z ≡ true → (n : ℕ) × (z ≡ pos (suc n))
positive_is (pos zero) e = cc
positive_is (pos (suc n)) e = (n, refl)
positive_is (negsuc n) e = cc

-- nor does a positive factor
pub order-product : (k p q : Fraction) → 0 < k.den → 0 < p.den → 0 < q.den → is_positive k ≡ true → order (product k p) (product k q) ≡ order p q
order-product k p q in_k in_p in_q positive =
    let factor = positive_is k.num positive in
    let size = suc factor.0 * k.den in
    order_from (IsRatio-reduced _ _ (mul-pos in_k in_p)) (IsRatio-reduced _ _ (mul-pos in_k in_q)) ∙ ap (λ z. int_cmp z ((k.num *ℤ q.num) *ℤ pos (k.den * p.den))) (side factor.0 p.num q.den factor.1) ∙ ap (int_cmp ((p.num *ℤ pos q.den) *ℤ pos size)) (side factor.0 q.num p.den factor.1) ∙ int_cmp-scale (p.num *ℤ pos q.den) (q.num *ℤ pos p.den) size (mul-pos (omega arith) in_k)
  where
    side : (n : ℕ) (x : ℤ) (d : ℕ) → k.num ≡ pos (suc n) → (k.num *ℤ x) *ℤ pos (k.den * d) ≡ (x *ℤ pos d) *ℤ pos (suc n * k.den)
    side n x d e =
        ap (λ z. (z *ℤ x) *ℤ pos (k.den * d)) e ∙ *ℤ_swap (pos (suc n)) x (pos k.den) (pos d) ∙ *ℤ_comm (pos (suc n * k.den)) (x *ℤ pos d)
