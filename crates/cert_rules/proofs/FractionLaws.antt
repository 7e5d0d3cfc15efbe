-- Laws of fractions that reasons rest on: what comparisons tell, products of sums, and 0.
use Rattle.std.proofs.Common.{◌≡◌, ℕ, ◌+◌, ◌*◌, ◌<◌, sym, ap, ◌∙◌, subst, arith, ℤ, pos, neg_ℤ, ◌+ℤ◌, ◌-ℤ◌, ◌*ℤ◌, ◌≤ℤ◌, ◌<ℤ◌, ◌≤◌, true, false}
use Rattle.std.specs.Ordering.{int_cmp, is_le, ordering_reverse}
use Rattle.std.proofs.lemmas.Int.{ints}
use Rattle.std.proofs.lemmas.Cmp.{int_cmp_total}
use Rattle.std.proofs.Math.Nat.{mul-pos, mul-lt-mul_of_pos_right, mul-le-mul_right}
use Rattle.std.proofs.Math.IntN.{*ℤ_comm}
use borrow.Author.Differences.{up, down}
use Rattle.vb_value.specs.Fraction.{Fraction, IsReduced, reduced, sum, difference, product, order, whole, none}
use Rattle.vb_value.proofs.IntLaws.{*ℤ_assoc, *ℤ_swap, +ℤ-*ℤ, neg_ℤ-*ℤ, *ℤ_one}
use Rattle.vb_value.proofs.FractionLaws.{reduced_same, reduced_self, same_from_cross, IsReduced-whole}
use Rattle.vb_value.proofs.OperationLaws.{IsRatio, IsRatio_self, IsRatio-reduced, sum_from, difference_from, product_from, product_comm, product-sum}
use Rattle.vb_value.proofs.OrderLaws.{order_from, order_antisymm}
use Rattle.cert_rules.proofs.OrderLaws.{le_from, is_le_from, lt_from, not_le_from, same_from_le, times_le, times_lt}

-- ---- order

-- two fractions in lowest terms, neither of which is the greater, are one
pub same_fraction_from_le : (p q : Fraction) → IsReduced p → IsReduced q → is_le (order p q) ≡ true → is_le (order q p) ≡ true → p ≡ q
same_fraction_from_le p q in_p in_q e f = same_from_cross p q in_p in_q (same_from_le _ _ e f)

scale_lt : (x y : ℤ) (k : ℕ) → 0 < k → x <ℤ y → (x *ℤ pos k) <ℤ (y *ℤ pos k)
scale_lt x y k h l =
    let parts : up x + down y < up y + down x = omega (arith, ints) in
    omega (arith, ints, mul-lt-mul_of_pos_right parts h)

scale_le : (x y : ℤ) (k : ℕ) → x ≤ℤ y → (x *ℤ pos k) ≤ℤ (y *ℤ pos k)
scale_le x y k l =
    let parts : up x + down y ≤ up y + down x = omega (arith, ints) in
    omega (arith, ints, mul-le-mul_right k parts)

-- the sum of two products of fractions in any terms
sum_of_products : (a b c d : Fraction) → 0 < a.den → 0 < b.den → 0 < c.den → 0 < d.den → IsRatio (sum (product a d) (product b c)) ((a.num *ℤ pos b.den) *ℤ (d.num *ℤ pos c.den) +ℤ (b.num *ℤ pos a.den) *ℤ (c.num *ℤ pos d.den)) ((a.den * d.den) * (b.den * c.den))
sum_of_products a b c d in_a in_b in_c in_d =
    let n = (a.num *ℤ d.num) *ℤ pos (b.den * c.den) +ℤ (b.num *ℤ c.num) *ℤ pos (a.den * d.den) in
    let e : sum (product a d) (product b c) ≡ reduced n ((a.den * d.den) * (b.den * c.den)) = sum_from (IsRatio-reduced (a.num *ℤ d.num) (a.den * d.den) (mul-pos in_a in_d)) (IsRatio-reduced (b.num *ℤ c.num) (b.den * c.den) (mul-pos in_b in_c)) in
    let r = IsRatio-reduced n ((a.den * d.den) * (b.den * c.den)) (mul-pos (mul-pos in_a in_d) (mul-pos in_b in_c)) in
    let f : n ≡ (a.num *ℤ pos b.den) *ℤ (d.num *ℤ pos c.den) +ℤ (b.num *ℤ pos a.den) *ℤ (c.num *ℤ pos d.den) =
    ap (λ z. z +ℤ (b.num *ℤ c.num) *ℤ pos (a.den * d.den)) (*ℤ_swap a.num d.num (pos b.den) (pos c.den)) ∙ ap (λ z. (a.num *ℤ pos b.den) *ℤ (d.num *ℤ pos c.den) +ℤ z) (*ℤ_swap b.num c.num (pos a.den) (pos d.den)) in
    subst (λ z. IsRatio (sum (product a d) (product b c)) z ((a.den * d.den) * (b.den * c.den))) f (subst (λ q. IsRatio q n ((a.den * d.den) * (b.den * c.den))) (sym e) r)

module _ {a b c d : Fraction} (in_a : IsReduced a) (in_b : IsReduced b) (in_c : IsReduced c) (in_d : IsReduced d) where
  -- the two sums of `times`, over the same denominator
  order_products : order (sum (product a d) (product b c)) (sum (product a c) (product b d)) ≡ int_cmp (((a.num *ℤ pos b.den) *ℤ (d.num *ℤ pos c.den) +ℤ (b.num *ℤ pos a.den) *ℤ (c.num *ℤ pos d.den)) *ℤ pos ((a.den * d.den) * (b.den * c.den))) (((a.num *ℤ pos b.den) *ℤ (c.num *ℤ pos d.den) +ℤ (b.num *ℤ pos a.den) *ℤ (d.num *ℤ pos c.den)) *ℤ pos ((a.den * d.den) * (b.den * c.den)))
  order_products =
      let e : (a.den * c.den) * (b.den * d.den) ≡ (a.den * d.den) * (b.den * c.den) = omega arith in
      order_from (sum_of_products a b c d in_a.positive in_b.positive in_c.positive in_d.positive) (sum_of_products a b d c in_a.positive in_b.positive in_d.positive in_c.positive) ∙ ap (λ k. int_cmp (((a.num *ℤ pos b.den) *ℤ (d.num *ℤ pos c.den) +ℤ (b.num *ℤ pos a.den) *ℤ (c.num *ℤ pos d.den)) *ℤ pos k) (((a.num *ℤ pos b.den) *ℤ (c.num *ℤ pos d.den) +ℤ (b.num *ℤ pos a.den) *ℤ (d.num *ℤ pos c.den)) *ℤ pos ((a.den * d.den) * (b.den * c.den)))) e

  pub fraction_times_le : is_le (order a b) ≡ true → is_le (order c d) ≡ true → is_le (order (sum (product a d) (product b c)) (sum (product a c) (product b d))) ≡ true
  fraction_times_le e f =
      ap is_le order_products ∙ is_le_from _ _ (scale_le _ _ ((a.den * d.den) * (b.den * c.den)) (times_le (a.num *ℤ pos b.den) (b.num *ℤ pos a.den) (c.num *ℤ pos d.den) (d.num *ℤ pos c.den) (le_from _ _ e) (le_from _ _ f)))

  pub fraction_times_lt : is_le (order b a) ≡ false → is_le (order d c) ≡ false → is_le (order (sum (product a c) (product b d)) (sum (product a d) (product b c))) ≡ false
  fraction_times_lt e f =
      let l = ((a.num *ℤ pos b.den) *ℤ (d.num *ℤ pos c.den) +ℤ (b.num *ℤ pos a.den) *ℤ (c.num *ℤ pos d.den)) *ℤ pos ((a.den * d.den) * (b.den * c.den)) in
      let m = ((a.num *ℤ pos b.den) *ℤ (c.num *ℤ pos d.den) +ℤ (b.num *ℤ pos a.den) *ℤ (d.num *ℤ pos c.den)) *ℤ pos ((a.den * d.den) * (b.den * c.den)) in
      let less = times_lt (a.num *ℤ pos b.den) (b.num *ℤ pos a.den) (c.num *ℤ pos d.den) (d.num *ℤ pos c.den) (lt_from _ _ e) (lt_from _ _ f) in
      let size = mul-pos (mul-pos in_a.positive in_d.positive) (mul-pos in_b.positive in_c.positive) in
      ap is_le (order_antisymm (sum (product a c) (product b d)) (sum (product a d) (product b c)) ∙ ap ordering_reverse order_products ∙ sym (int_cmp_total.antisymm m l)) ∙ not_le_from l m (scale_lt _ _ ((a.den * d.den) * (b.den * c.den)) size less)

-- ---- products of sums and differences

pub sum_times : (p q r : Fraction) → 0 < p.den → 0 < q.den → 0 < r.den → product (sum p q) r ≡ sum (product p r) (product q r)
sum_times p q r in_p in_q in_r =
    product_comm (sum p q) r ∙ product-sum r p q in_r in_p in_q ∙ ap (λ x. sum x (product r q)) (product_comm r p) ∙ ap (sum (product p r)) (product_comm r q)

pub difference_times : (p q r : Fraction) → 0 < p.den → 0 < q.den → 0 < r.den → product (difference p q) r ≡ difference (product p r) (product q r)
difference_times p q r in_p in_q in_r =
    product_from (IsRatio-reduced _ _ (mul-pos in_p in_q)) (IsRatio_self r in_r) ∙ reduced_same _ _ _ _ (mul-pos (mul-pos in_p in_q) in_r) (mul-pos (mul-pos in_p in_r) (mul-pos in_q in_r)) (ap (λ z. z *ℤ pos (p.den * r.den * (q.den * r.den))) (parts p.num q.num r.num p.den q.den) ∙ scaled (p.num *ℤ r.num) (q.num *ℤ r.num) p.den q.den r.den) ∙ sym (difference_from (IsRatio-reduced _ _ (mul-pos in_p in_r)) (IsRatio-reduced _ _ (mul-pos in_q in_r)))
  where
    last : (x y z : ℤ) → (x *ℤ y) *ℤ z ≡ (x *ℤ z) *ℤ y
    last x y z = *ℤ_assoc x y z ∙ ap (λ w. x *ℤ w) (*ℤ_comm y z) ∙ sym (*ℤ_assoc x z y)

    parts : (x y z : ℤ) (p q : ℕ) → (x *ℤ pos q -ℤ y *ℤ pos p) *ℤ z ≡ (x *ℤ z) *ℤ pos q -ℤ (y *ℤ z) *ℤ pos p
    parts x y z p q =
        +ℤ-*ℤ (x *ℤ pos q) (neg_ℤ (y *ℤ pos p)) z ∙ ap (λ w. w +ℤ neg_ℤ (y *ℤ pos p) *ℤ z) (last x (pos q) z) ∙ ap (λ w. (x *ℤ z) *ℤ pos q +ℤ w) (neg_ℤ-*ℤ (y *ℤ pos p) z ∙ ap neg_ℤ (last y (pos p) z))

    scaled : (u v : ℤ) (p q r : ℕ) → (u *ℤ pos q -ℤ v *ℤ pos p) *ℤ pos (p * r * (q * r)) ≡ (u *ℤ pos (q * r) -ℤ v *ℤ pos (p * r)) *ℤ pos (p * q * r)
    scaled u v p q r = simp (+ℤ-*ℤ, neg_ℤ-*ℤ, *ℤ_assoc) (omega (arith, ints))

-- a product of whole numbers
pub whole_times : (x y : ℤ) → whole (x *ℤ y) ≡ product (whole x) (whole y)
whole_times x y = sym (reduced_self (whole (x *ℤ y)) (IsReduced-whole (x *ℤ y)))

-- ---- 0

pub none_from : (q : Fraction) → IsReduced q → q.num ≡ pos 0 → q ≡ none
none_from q in_q e = same_from_cross q none in_q (IsReduced-whole (pos 0)) (*ℤ_one q.num ∙ e ∙ zeros q.den)
  where
    zeros : (d : ℕ) → pos 0 ≡ pos 0 *ℤ pos d
    zeros d = omega (arith, ints)
