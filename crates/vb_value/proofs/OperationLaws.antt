-- Laws of the operations on fractions with positive denominators.
use Rattle.std.proofs.Common.{◌≡◌, ℕ, ◌*◌, ◌<◌, refl, sym, ap, ◌∙◌, arith, ℤ, pos, ◌+ℤ◌, ◌-ℤ◌, ◌*ℤ◌}
use Rattle.std.proofs.lemmas.Int.{ints}
use Rattle.std.proofs.Math.IntN.{+ℤ_comm, *ℤ_comm}
use Rattle.std.proofs.Math.Nat.{mul_comm, mul_assoc, mul-pos, one-mul}
use Rattle.vb_value.specs.Fraction.{Fraction, IsReduced, reduced, ratio, whole, sum, difference, product, quotient, quotient_by}
use Rattle.vb_value.proofs.IntLaws.{*ℤ_assoc, *ℤ_swap, *ℤ-+ℤ, +ℤ-*ℤ, neg_ℤ-*ℤ, *ℤ_one, one-*ℤ}
use Rattle.vb_value.proofs.FractionLaws.{IsReduced-reduced, reduced-ratio, reduced_same, reduced_self, IsReduced-whole}

-- q is `n / d`, perhaps in other terms
pub record IsRatio (q : Fraction) (n : ℤ) (d : ℕ) : Type 0 where
  pub den : 0 < q.den
  pub positive : 0 < d
  pub same : q.num *ℤ pos d ≡ n *ℤ pos q.den

pub IsRatio_self : (q : Fraction) → 0 < q.den → IsRatio q q.num q.den
IsRatio_self q h = record { den = h; positive = h; same = refl }

pub IsRatio-reduced : (n : ℤ) (d : ℕ) → 0 < d → IsRatio (reduced n d) n d
IsRatio-reduced n d h = record { den = (IsReduced-reduced n d h).positive; positive = h; same = reduced-ratio n d }

-- ---- an operation on ratios in any terms

pub sum_from : {p q : Fraction} {a c : ℤ} {b d : ℕ} → IsRatio p a b → IsRatio q c d → sum p q ≡ reduced (a *ℤ pos d +ℤ c *ℤ pos b) (b * d)
sum_from {p} {q} {a} {c} {b} {d} x y =
    reduced_same _ _ _ _ (mul-pos x.den y.den) (mul-pos x.positive y.positive)
    (let left = simp *ℤ_assoc at (ap (λ z. z *ℤ pos (q.den * d)) x.same) in
    let right = simp *ℤ_assoc at (ap (λ z. z *ℤ pos (p.den * b)) y.same) in
    simp (+ℤ-*ℤ, *ℤ_assoc) (omega (arith, ints, left, right)))

pub difference_from : {p q : Fraction} {a c : ℤ} {b d : ℕ} → IsRatio p a b → IsRatio q c d → difference p q ≡ reduced (a *ℤ pos d -ℤ c *ℤ pos b) (b * d)
difference_from {p} {q} {a} {c} {b} {d} x y =
    reduced_same _ _ _ _ (mul-pos x.den y.den) (mul-pos x.positive y.positive)
    (let left = simp *ℤ_assoc at (ap (λ z. z *ℤ pos (q.den * d)) x.same) in
    let right = simp *ℤ_assoc at (ap (λ z. z *ℤ pos (p.den * b)) y.same) in
    simp (+ℤ-*ℤ, neg_ℤ-*ℤ, *ℤ_assoc) (omega (arith, ints, left, right)))

pub product_from : {p q : Fraction} {a c : ℤ} {b d : ℕ} → IsRatio p a b → IsRatio q c d → product p q ≡ reduced (a *ℤ c) (b * d)
product_from {p} {q} {a} {c} {b} {d} x y =
    reduced_same _ _ _ _ (mul-pos x.den y.den) (mul-pos x.positive y.positive)
    (*ℤ_swap p.num q.num (pos b) (pos d) ∙ ap (λ z. z *ℤ (q.num *ℤ pos d)) x.same ∙ ap (λ z. (a *ℤ pos p.den) *ℤ z) y.same ∙ *ℤ_swap a (pos p.den) c (pos q.den))

-- ---- sums

pub sum_comm : (p q : Fraction) → sum p q ≡ sum q p
sum_comm p q =
    ap (λ n. reduced n (p.den * q.den)) (+ℤ_comm (p.num *ℤ pos q.den) (q.num *ℤ pos p.den)) ∙ ap (reduced (q.num *ℤ pos p.den +ℤ p.num *ℤ pos q.den)) (mul_comm p.den q.den)

pub sum_assoc : (p q r : Fraction) → 0 < p.den → 0 < q.den → 0 < r.den → sum (sum p q) r ≡ sum p (sum q r)
sum_assoc p q r in_p in_q in_r =
    sum_from (IsRatio-reduced _ _ (mul-pos in_p in_q)) (IsRatio_self r in_r) ∙ reduced_same _ _ _ _ (mul-pos (mul-pos in_p in_q) in_r) (mul-pos in_p (mul-pos in_q in_r)) (simp (+ℤ-*ℤ, *ℤ_assoc) (omega (arith, ints))) ∙ sym (sum_from (IsRatio_self p in_p) (IsRatio-reduced _ _ (mul-pos in_q in_r)))

-- 0 is neutral
pub sum-zero : (q : Fraction) → IsReduced q → sum q (whole (pos 0)) ≡ q
sum-zero q in_q =
    reduced_same _ _ _ _ (mul-pos in_q.positive (omega arith)) in_q.positive (simp (+ℤ-*ℤ, *ℤ_assoc) (omega (arith, ints))) ∙ reduced_self q in_q

pub difference-zero : (q : Fraction) → IsReduced q → difference q (whole (pos 0)) ≡ q
difference-zero q in_q =
    reduced_same _ _ _ _ (mul-pos in_q.positive (omega arith)) in_q.positive (simp (+ℤ-*ℤ, neg_ℤ-*ℤ, *ℤ_assoc) (omega (arith, ints))) ∙ reduced_self q in_q

pub difference_self : (q : Fraction) → 0 < q.den → difference q q ≡ whole (pos 0)
difference_self q in_q =
    reduced_same _ (pos 0) _ 1 (mul-pos in_q in_q) (omega arith) (simp (+ℤ-*ℤ, neg_ℤ-*ℤ, *ℤ_assoc) (omega (arith, ints))) ∙ reduced_self (whole (pos 0)) (IsReduced-whole (pos 0))

-- what was added is taken away again, and the other way round
pub difference-sum : (p q : Fraction) → IsReduced p → 0 < q.den → difference (sum p q) q ≡ p
difference-sum p q in_p in_q =
    difference_from (IsRatio-reduced _ _ (mul-pos in_p.positive in_q)) (IsRatio_self q in_q) ∙ reduced_same _ _ _ _ (mul-pos (mul-pos in_p.positive in_q) in_q) in_p.positive (simp (+ℤ-*ℤ, neg_ℤ-*ℤ, *ℤ_assoc) (omega (arith, ints))) ∙ reduced_self p in_p

pub sum-difference : (p q : Fraction) → IsReduced p → 0 < q.den → sum (difference p q) q ≡ p
sum-difference p q in_p in_q =
    sum_from (IsRatio-reduced _ _ (mul-pos in_p.positive in_q)) (IsRatio_self q in_q) ∙ reduced_same _ _ _ _ (mul-pos (mul-pos in_p.positive in_q) in_q) in_p.positive (simp (+ℤ-*ℤ, neg_ℤ-*ℤ, *ℤ_assoc) (omega (arith, ints))) ∙ reduced_self p in_p

-- ---- products

pub product_comm : (p q : Fraction) → product p q ≡ product q p
product_comm p q =
    ap (λ n. reduced n (p.den * q.den)) (*ℤ_comm p.num q.num) ∙ ap (reduced (q.num *ℤ p.num)) (mul_comm p.den q.den)

pub product_assoc : (p q r : Fraction) → 0 < p.den → 0 < q.den → 0 < r.den → product (product p q) r ≡ product p (product q r)
product_assoc p q r in_p in_q in_r =
    product_from (IsRatio-reduced _ _ (mul-pos in_p in_q)) (IsRatio_self r in_r) ∙ ap (λ n. reduced n (p.den * q.den * r.den)) (*ℤ_assoc p.num q.num r.num) ∙ ap (reduced (p.num *ℤ (q.num *ℤ r.num))) (mul_assoc p.den q.den r.den) ∙ sym (product_from (IsRatio_self p in_p) (IsRatio-reduced _ _ (mul-pos in_q in_r)))

-- 1 is neutral
pub product-one : (q : Fraction) → IsReduced q → product (whole (pos 1)) q ≡ q
product-one q in_q =
    reduced_same _ _ _ _ (mul-pos (omega arith) in_q.positive) in_q.positive (ap (λ z. z *ℤ pos q.den) (one-*ℤ q.num) ∙ ap (λ k. q.num *ℤ pos k) (sym (one-mul q.den))) ∙ reduced_self q in_q

pub product-zero : (q : Fraction) → 0 < q.den → product (whole (pos 0)) q ≡ whole (pos 0)
product-zero q in_q =
    reduced_same _ (pos 0) _ 1 (mul-pos (omega arith) in_q) (omega arith) (omega (arith, ints)) ∙ reduced_self (whole (pos 0)) (IsReduced-whole (pos 0))

-- a product of a sum is the sum of the products
pub product-sum : (r p q : Fraction) → 0 < r.den → 0 < p.den → 0 < q.den → product r (sum p q) ≡ sum (product r p) (product r q)
product-sum r p q in_r in_p in_q =
    product_from (IsRatio_self r in_r) (IsRatio-reduced _ _ (mul-pos in_p in_q)) ∙ reduced_same _ _ _ _ (mul-pos in_r (mul-pos in_p in_q)) (mul-pos (mul-pos in_r in_p) (mul-pos in_r in_q)) (ap (λ z. z *ℤ pos (r.den * p.den * (r.den * q.den))) parts ∙ scaled (r.num *ℤ p.num) (r.num *ℤ q.num) r.den p.den q.den) ∙ sym (sum_from (IsRatio-reduced _ _ (mul-pos in_r in_p)) (IsRatio-reduced _ _ (mul-pos in_r in_q)))
  where
    parts : r.num *ℤ (p.num *ℤ pos q.den +ℤ q.num *ℤ pos p.den) ≡ (r.num *ℤ p.num) *ℤ pos q.den +ℤ (r.num *ℤ q.num) *ℤ pos p.den
    parts = simp (*ℤ-+ℤ, *ℤ_assoc)

    scaled : (x y : ℤ) (r p q : ℕ) → (x *ℤ pos q +ℤ y *ℤ pos p) *ℤ pos (r * p * (r * q)) ≡ (x *ℤ pos (r * q) +ℤ y *ℤ pos (r * p)) *ℤ pos (r * (p * q))
    scaled x y r p q = simp (+ℤ-*ℤ, *ℤ_assoc) (omega (arith, ints))

-- ---- quotients

-- to divide by the whole number n is to divide by the fraction `n / 1`
pub quotient-whole : (p : Fraction) (n : ℤ) → quotient p (whole n) ≡ quotient_by p n
quotient-whole p n = ap (λ m. ratio m (n *ℤ pos p.den)) (*ℤ_one p.num) ∙ ap (ratio p.num) (*ℤ_comm n (pos p.den))
