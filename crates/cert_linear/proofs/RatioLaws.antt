-- Fractions by their numbers of parts of a common denominator: sums, products with a constant, and the order.
use Rattle.std.proofs.Common.{◌≡◌, ℕ, ◌+◌, ◌*◌, ◌<◌, ◌≤◌, true, false, refl, sym, ap, ◌∙◌, arith, ℤ, pos, neg_ℤ, ◌+ℤ◌, ◌-ℤ◌, ◌*ℤ◌, ◌<ℤ◌, ◌≤ℤ◌}
use Rattle.std.specs.Ordering.{int_cmp, is_le}
use Rattle.std.specs.declared.cmp.Ordering.{Ordering}
use Rattle.std.proofs.lemmas.Int.{ints}
use Rattle.std.proofs.lemmas.Cmp.{int_ranked, by_ranked}
use Rattle.std.proofs.Math.IntN.{*ℤ_comm}
use Rattle.std.proofs.Math.Nat.{mul-pos, mul-lt-mul_of_pos_right, mul-le-mul_right}
use borrow.Author.Differences.{up, down}
use Rattle.vb_value.specs.Fraction.{Fraction, IsReduced, whole, sum, difference, product, quotient, order}
use Rattle.vb_value.proofs.IntLaws.{*ℤ_assoc, *ℤ_swap, +ℤ-*ℤ, neg_ℤ-*ℤ, *ℤ_cancel, *ℤ_one}
use Rattle.vb_value.proofs.FractionLaws.{same_from_cross}
use Rattle.vb_value.proofs.OperationLaws.{IsRatio, IsRatio-reduced}
use Rattle.vb_value.proofs.OrderLaws.{order_from}
use Rattle.vb_value.proofs.QuotientLaws.{ratio-cross}

-- two ratios of one fraction have one cross product
pub ratios_same : (q : Fraction) (n m : ℤ) (d e : ℕ) → IsRatio q n d → IsRatio q m e → n *ℤ pos e ≡ m *ℤ pos d
ratios_same q n m d e x y =
    *ℤ_cancel _ _ q.den x.den (turn n (pos e) (pos q.den) ∙ ap (λ z. z *ℤ pos e) (sym x.same) ∙ turn q.num (pos d) (pos e) ∙ ap (λ z. z *ℤ pos d) y.same ∙ turn m (pos q.den) (pos d))
  where
    turn : (a b c : ℤ) → (a *ℤ b) *ℤ c ≡ (a *ℤ c) *ℤ b
    turn a b c = *ℤ_assoc a b c ∙ ap (λ z. a *ℤ z) (*ℤ_comm b c) ∙ sym (*ℤ_assoc a c b)

module _ (d : ℕ) where
  -- x parts of p and y of q make x + y parts of their sum
  pub parts-sum : (p q : Fraction) (x y z : ℤ) → IsRatio p x d → IsRatio q y d → IsRatio (sum p q) z d → z ≡ x +ℤ y
  parts-sum p q x y z in_p in_q in_z =
      let cross = ratios_same (sum p q) _ _ _ _ in_z (IsRatio-reduced (p.num *ℤ pos q.den +ℤ q.num *ℤ pos p.den) (p.den * q.den) (mul-pos in_p.den in_q.den)) in
      let left = simp *ℤ_assoc at (ap (λ v. v *ℤ pos q.den) in_p.same) in
      let right = simp *ℤ_assoc at (ap (λ v. v *ℤ pos p.den) in_q.same) in
      *ℤ_cancel z (x +ℤ y) (p.den * q.den) (mul-pos in_p.den in_q.den) (cross ∙ simp (+ℤ-*ℤ, *ℤ_assoc) (omega (arith, ints, left, right)))

  pub parts-difference : (p q : Fraction) (x y z : ℤ) → IsRatio p x d → IsRatio q y d → IsRatio (difference p q) z d → z ≡ x -ℤ y
  parts-difference p q x y z in_p in_q in_z =
      let cross = ratios_same (difference p q) _ _ _ _ in_z (IsRatio-reduced (p.num *ℤ pos q.den -ℤ q.num *ℤ pos p.den) (p.den * q.den) (mul-pos in_p.den in_q.den)) in
      let left = simp *ℤ_assoc at (ap (λ v. v *ℤ pos q.den) in_p.same) in
      let right = simp *ℤ_assoc at (ap (λ v. v *ℤ pos p.den) in_q.same) in
      *ℤ_cancel z (x -ℤ y) (p.den * q.den) (mul-pos in_p.den in_q.den) (cross ∙ simp (+ℤ-*ℤ, neg_ℤ-*ℤ, *ℤ_assoc) (omega (arith, ints, left, right)))

  -- a constant times a fraction
  pub parts-product : (k q : Fraction) (y z : ℤ) → 0 < k.den → IsRatio q y d → IsRatio (product k q) z d → pos k.den *ℤ z ≡ k.num *ℤ y
  parts-product k q y z in_k in_q in_z =
      let cross = ratios_same (product k q) _ _ _ _ in_z (IsRatio-reduced (k.num *ℤ q.num) (k.den * q.den) (mul-pos in_k in_q.den)) in
      *ℤ_cancel _ _ q.den in_q.den (first z k.den q.den ∙ cross ∙ *ℤ_assoc k.num q.num (pos d) ∙ ap (λ v. k.num *ℤ v) in_q.same ∙ sym (*ℤ_assoc k.num y (pos q.den)))
    where
      first : (z : ℤ) (a b : ℕ) → (pos a *ℤ z) *ℤ pos b ≡ z *ℤ pos (a * b)
      first z a b = ap (λ v. v *ℤ pos b) (*ℤ_comm (pos a) z) ∙ *ℤ_assoc z (pos a) (pos b)

  -- a fraction divided by a constant that is not 0
  pub parts-quotient : (q k : Fraction) (y z : ℤ) → IsRatio q y d → IsRatio (quotient q k) z d → k.num *ℤ z ≡ pos k.den *ℤ y
  parts-quotient q k y z in_q in_z =
      let r = quotient q k in
      let cross = ratio-cross (q.num *ℤ pos k.den) (k.num *ℤ pos q.den) in
      *ℤ_cancel _ _ r.den in_z.den (*ℤ_cancel _ _ q.den in_q.den (one k.num z (pos r.den) (pos q.den) ∙ ap (λ v. (k.num *ℤ pos q.den) *ℤ v) (sym in_z.same) ∙ two (k.num *ℤ pos q.den) r.num (pos d) ∙ ap (λ v. v *ℤ pos d) cross ∙ three q.num (pos k.den) (pos r.den) (pos d) ∙ ap (λ v. (pos k.den *ℤ pos r.den) *ℤ v) in_q.same ∙ four (pos k.den) (pos r.den) y (pos q.den)))
    where
      one : (a b c e : ℤ) → ((a *ℤ b) *ℤ c) *ℤ e ≡ (a *ℤ e) *ℤ (b *ℤ c)
      one a b c e = ap (λ v. v *ℤ e) (*ℤ_assoc a b c) ∙ *ℤ_assoc a (b *ℤ c) e ∙ ap (λ v. a *ℤ v) (*ℤ_comm (b *ℤ c) e) ∙ sym (*ℤ_assoc a e (b *ℤ c))

      two : (a b c : ℤ) → a *ℤ (b *ℤ c) ≡ (b *ℤ a) *ℤ c
      two a b c = sym (*ℤ_assoc a b c) ∙ ap (λ v. v *ℤ c) (*ℤ_comm a b)

      three : (a b c e : ℤ) → ((a *ℤ b) *ℤ c) *ℤ e ≡ (b *ℤ c) *ℤ (a *ℤ e)
      three a b c e = ap (λ v. v *ℤ e) (*ℤ_assoc a b c ∙ *ℤ_comm a (b *ℤ c)) ∙ *ℤ_assoc (b *ℤ c) a e

      four : (a b c e : ℤ) → (a *ℤ b) *ℤ (c *ℤ e) ≡ ((a *ℤ c) *ℤ b) *ℤ e
      four a b c e = *ℤ_swap a b c e ∙ sym (*ℤ_assoc (a *ℤ c) b e)

  pub parts-neg : (q : Fraction) (y z : ℤ) → IsRatio q y d → IsRatio (record { num = neg_ℤ q.num; den = q.den }) z d → z ≡ neg_ℤ y
  parts-neg q y z in_q in_z =
      *ℤ_cancel z (neg_ℤ y) q.den in_q.den (sym in_z.same ∙ neg_ℤ-*ℤ q.num (pos d) ∙ ap neg_ℤ in_q.same ∙ sym (neg_ℤ-*ℤ y (pos q.den)))

  pub parts-whole : (n z : ℤ) → IsRatio (whole n) z d → z ≡ n *ℤ pos d
  parts-whole n z in_z = sym (*ℤ_one z) ∙ sym in_z.same

  -- parts of one fraction
  pub parts_same : (q : Fraction) (x y : ℤ) → IsRatio q x d → IsRatio q y d → x ≡ y
  parts_same q x y in_x in_y = *ℤ_cancel x y d in_x.positive (ratios_same q x y d d in_x in_y)

  -- as many parts make one fraction
  pub fractions_same : (p q : Fraction) (x : ℤ) → IsReduced p → IsReduced q → IsRatio p x d → IsRatio q x d → p ≡ q
  fractions_same p q x r s in_p in_q =
      same_from_cross p q r s (*ℤ_cancel _ _ d in_p.positive (turn p.num (pos q.den) (pos d) ∙ ap (λ v. v *ℤ pos q.den) in_p.same ∙ turn x (pos p.den) (pos q.den) ∙ ap (λ v. v *ℤ pos p.den) (sym in_q.same) ∙ turn q.num (pos d) (pos p.den)))
    where
      turn : (a b c : ℤ) → (a *ℤ b) *ℤ c ≡ (a *ℤ c) *ℤ b
      turn a b c = *ℤ_assoc a b c ∙ ap (λ z. a *ℤ z) (*ℤ_comm b c) ∙ sym (*ℤ_assoc a c b)

  -- ---- the order

  scaled_less : (x y : ℤ) → 0 < d → x <ℤ y → (x *ℤ pos d) <ℤ (y *ℤ pos d)
  scaled_less x y h l =
      let apart : up x + down y < up y + down x = omega (arith, ints) in
      omega (arith, ints, mul-lt-mul_of_pos_right apart h)

  at_most_from : (x y : ℤ) → is_le (int_cmp x y) ≡ true → x ≤ℤ y
  at_most_from x y e =
      by_ranked _ _ _ (int_cmp x y) (int_ranked x y (int_cmp x y) refl) (λ less h. omega (arith, ints)) (λ equal h. omega (arith, ints)) (λ greater h. let f : false ≡ true = ap is_le (sym greater) ∙ e in absurd (cc))

  pub above_from : (x y : ℤ) → is_le (int_cmp x y) ≡ false → y <ℤ x
  above_from x y e =
      by_ranked _ _ _ (int_cmp x y) (int_ranked x y (int_cmp x y) refl) (λ less h. let f : true ≡ false = ap is_le (sym less) ∙ e in absurd (cc)) (λ equal h. let f : true ≡ false = ap is_le (sym equal) ∙ e in absurd (cc)) (λ greater h. h)

  -- an order of multiples is one of what is multiplied
  unscaled_less : (x y : ℤ) → (x *ℤ pos d) <ℤ (y *ℤ pos d) → x <ℤ y
  unscaled_less x y l = decide (int_cmp x y) refl
    where
      decide : (o : Ordering) → o ≡ int_cmp x y → x <ℤ y
      decide o e =
          by_ranked _ _ _ o (int_ranked x y o e) (λ _ h. h) (λ _ h. let s : x *ℤ pos d ≡ y *ℤ pos d = ap (λ v. v *ℤ pos d) h in absurd (omega (arith, ints))) (λ _ h. absurd (over h))
        where
          over : y <ℤ x → ⊥
          over h =
              let apart : up y + down x ≤ up x + down y = omega (arith, ints) in
              let more : (up y + down x) * d ≤ (up x + down y) * d = mul-le-mul_right d apart in
              omega (arith, ints, l, more)

  pub parts_at_most : (p q : Fraction) (x y : ℤ) → IsRatio p x d → IsRatio q y d → is_le (order p q) ≡ true → x ≤ℤ y
  parts_at_most p q x y in_p in_q e =
      let below : (x *ℤ pos d) ≤ℤ (y *ℤ pos d) = at_most_from _ _ (sym (ap is_le (order_from in_p in_q)) ∙ e) in
      decide (int_cmp x y) refl below
    where
      decide : (o : Ordering) → o ≡ int_cmp x y → (x *ℤ pos d) ≤ℤ (y *ℤ pos d) → x ≤ℤ y
      decide o e below =
          by_ranked _ _ _ o (int_ranked x y o e) (λ _ h. omega (arith, ints)) (λ _ h. omega (arith, ints)) (λ _ h. let more = scaled_less y x in_p.positive h in absurd (omega (arith, ints, below, more)))

  pub parts_above : (p q : Fraction) (x y : ℤ) → IsRatio p x d → IsRatio q y d → is_le (order p q) ≡ false → y <ℤ x
  parts_above p q x y in_p in_q e =
      unscaled_less y x (above_from _ _ (sym (ap is_le (order_from in_p in_q)) ∙ e))
