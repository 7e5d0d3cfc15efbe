-- Laws of fractions: lowest terms, equal ratios, and the operations.
use Rattle.std.proofs.Common.{◌≡◌, ℕ, zero, suc, ◌*◌, ◌/◌, ◌^◌, ◌<◌, refl, sym, ap, ◌∙◌, subst, arith, ℤ, pos, negsuc, neg_ℤ, ◌*ℤ◌, unsigned_abs}
use Rattle.std.specs.Int.{◌∣◌}
use Rattle.std.specs.Int.RustNames.{int_div}
use Rattle.std.proofs.lemmas.Int.{ints}
use Rattle.std.proofs.Math.Nat.{div-le_self, div-mul_cancel, dvd-mul_left, dvd-mul_right, dvd_antisymm, pos_of_dvd_of_pos, mul_comm, mul-pos}
use Rattle.vb_value.specs.Bound.{IsWithin}
use Rattle.vb_value.specs.Gcd.{gcd}
use Rattle.vb_value.specs.Fraction.{Fraction, IsReduced, IsWithinFraction, IsRepresentable, reduced, whole}
use Rattle.vb_value.specs.Equality.{same_fraction}
use Rattle.vb_value.proofs.GcdLaws.{IsGcd-gcd, gcd-div, gcd-one, dvd_from_coprime}
use Rattle.vb_value.proofs.IntLaws.{*ℤ_assoc, *ℤ_swap, *ℤ_cancel, unsigned_abs-*ℤ}

-- ---- lowest terms

pub unsigned_abs-int_div : (n : ℤ) (g : ℕ) → unsigned_abs (int_div n (pos g)) ≡ unsigned_abs n / g
unsigned_abs-int_div (pos n) g = refl
unsigned_abs-int_div (negsuc n) g = omega (arith, ints)

pub IsReduced-reduced : (n : ℤ) (d : ℕ) → 0 < d → IsReduced (reduced n d)
unfolding reduced
IsReduced-reduced n d h =
    let g = gcd (unsigned_abs n) d in
    let back : d / g * g ≡ d = div-mul_cancel g (IsGcd-gcd (unsigned_abs n) d).1 in
    record {
      positive = pos_of_dvd_of_pos (subst (λ m. d / g ∣ m) back (dvd-mul_right (d / g) g)) h;
      coprime = ap (λ m. gcd m (d / g)) (unsigned_abs-int_div n g) ∙ gcd-div (unsigned_abs n) d h;
    }

pub IsWithinFraction-reduced : (n : ℤ) (d : ℕ) → IsWithin n → d < 2 ^ 127 → IsWithinFraction (reduced n d)
unfolding reduced
IsWithinFraction-reduced n d num den =
    let g = gcd (unsigned_abs n) d in
    record {
      num = omega (arith, unsigned_abs-int_div n g, div-le_self (unsigned_abs n) g);
      den = omega (arith, div-le_self d g);
    }

-- reducing keeps the bound
pub IsRepresentable-reduced : (n : ℤ) (d : ℕ) → IsWithin n → 0 < d → d < 2 ^ 127 → IsRepresentable (reduced n d)
IsRepresentable-reduced n d num positive den = record { reduced = IsReduced-reduced n d positive; within = IsWithinFraction-reduced n d num den }

-- ---- equal ratios

exact_quotient : (n : ℤ) (g : ℕ) → g ∣ unsigned_abs n → int_div n (pos g) *ℤ pos g ≡ n
exact_quotient (pos n) g h = ap pos (div-mul_cancel g h)
exact_quotient (negsuc n) g h = negative (suc n / g) g n (div-mul_cancel g h)
  where
    negative : (k g n : ℕ) → k * g ≡ suc n → neg_ℤ (pos k) *ℤ pos g ≡ negsuc n
    negative zero g n e = absurd (omega arith)
    negative (suc k) g n e = ap (λ m. neg_ℤ (pos m)) e

-- `reduced n d` is `n / d`
pub reduced-ratio : (n : ℤ) (d : ℕ) → (reduced n d).num *ℤ pos d ≡ n *ℤ pos (reduced n d).den
unfolding reduced
reduced-ratio n d =
    let g = gcd (unsigned_abs n) d in
    let is = IsGcd-gcd (unsigned_abs n) d in
    let q = int_div n (pos g) in
    let num : q *ℤ pos g ≡ n = exact_quotient n g is.0 in
    let den : g * (d / g) ≡ d = omega (arith, div-mul_cancel g is.1) in
    ap (λ m. q *ℤ pos m) (sym den) ∙ sym (*ℤ_assoc q (pos g) (pos (d / g))) ∙ ap (λ z. z *ℤ pos (d / g)) num

-- two fractions in lowest terms with equal cross products are one
pub same_from_cross : (p q : Fraction) → IsReduced p → IsReduced q → p.num *ℤ pos q.den ≡ q.num *ℤ pos p.den → p ≡ q
same_from_cross p q in_p in_q e =
    let sizes : unsigned_abs p.num * q.den ≡ unsigned_abs q.num * p.den = sym (unsigned_abs-*ℤ p.num (pos q.den)) ∙ ap unsigned_abs e ∙ unsigned_abs-*ℤ q.num (pos p.den) in
    let over : p.den ∣ q.den = dvd_from_coprime (unsigned_abs p.num) p.den q.den in_q.positive in_p.coprime (subst (λ n. p.den ∣ n) (sym sizes) (dvd-mul_left p.den (unsigned_abs q.num))) in
    let under : q.den ∣ p.den = dvd_from_coprime (unsigned_abs q.num) q.den p.den in_p.positive in_q.coprime (subst (λ n. q.den ∣ n) sizes (dvd-mul_left q.den (unsigned_abs p.num))) in
    let dens : p.den ≡ q.den = dvd_antisymm over under in
    same_fraction p q (*ℤ_cancel p.num q.num q.den in_q.positive (e ∙ ap (λ d. q.num *ℤ pos d) dens)) dens

-- equal ratios have one fraction in lowest terms
pub reduced_same : (n m : ℤ) (d e : ℕ) → 0 < d → 0 < e → n *ℤ pos e ≡ m *ℤ pos d → reduced n d ≡ reduced m e
reduced_same n m d e in_d in_e same =
    let p = reduced n d in
    let q = reduced m e in
    let left : (p.num *ℤ pos q.den) *ℤ pos (d * e) ≡ (n *ℤ pos e) *ℤ pos (p.den * q.den) =
    *ℤ_swap p.num (pos q.den) (pos d) (pos e) ∙ ap (λ z. z *ℤ pos (q.den * e)) (reduced-ratio n d) ∙ ap (λ k. (n *ℤ pos p.den) *ℤ pos k) (mul_comm q.den e) ∙ *ℤ_swap n (pos p.den) (pos e) (pos q.den) in
    let right : (q.num *ℤ pos p.den) *ℤ pos (e * d) ≡ (m *ℤ pos d) *ℤ pos (q.den * p.den) =
    *ℤ_swap q.num (pos p.den) (pos e) (pos d) ∙ ap (λ z. z *ℤ pos (p.den * d)) (reduced-ratio m e) ∙ ap (λ k. (m *ℤ pos q.den) *ℤ pos k) (mul_comm p.den d) ∙ *ℤ_swap m (pos q.den) (pos d) (pos p.den) in
    let cross : (p.num *ℤ pos q.den) *ℤ pos (d * e) ≡ (q.num *ℤ pos p.den) *ℤ pos (d * e) =
    left ∙ ap (λ z. z *ℤ pos (p.den * q.den)) same ∙ ap (λ k. (m *ℤ pos d) *ℤ pos k) (mul_comm p.den q.den) ∙ sym right ∙ ap (λ k. (q.num *ℤ pos p.den) *ℤ pos k) (mul_comm e d) in
    same_from_cross p q (IsReduced-reduced n d in_d) (IsReduced-reduced m e in_e) (*ℤ_cancel _ _ (d * e) (mul-pos in_d in_e) cross)

-- a fraction in lowest terms stays as it is
pub reduced_self : (q : Fraction) → IsReduced q → reduced q.num q.den ≡ q
reduced_self q in_q = same_from_cross _ q (IsReduced-reduced q.num q.den in_q.positive) in_q (reduced-ratio q.num q.den)

pub IsReduced-whole : (n : ℤ) → IsReduced (whole n)
IsReduced-whole n = record { positive = omega arith; coprime = gcd-one (unsigned_abs n) }
