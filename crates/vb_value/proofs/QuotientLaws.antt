-- Laws of quotients, and of fractions whose denominator may be negative.
use Rattle.std.proofs.Common.{◌≡◌, ◌≢◌, ℕ, suc, ◌*◌, ◌<◌, ap, ◌∙◌, arith, ℤ, pos, negsuc, neg_ℤ, ◌*ℤ◌}
use Rattle.std.proofs.lemmas.Int.{ints}
use Rattle.std.proofs.Math.IntN.{*ℤ_comm}
use Rattle.std.proofs.Math.Nat.{mul_comm, mul-pos}
use Rattle.vb_value.specs.Fraction.{Fraction, IsReduced, reduced, ratio, product, quotient}
use Rattle.vb_value.proofs.IntLaws.{*ℤ_assoc, *ℤ_nonzero, neg_ℤ-*ℤ}
use Rattle.vb_value.proofs.FractionLaws.{IsReduced-reduced, reduced-ratio, reduced_same, reduced_self}

pub IsReduced-ratio : (n d : ℤ) → d ≢ pos 0 → IsReduced (ratio n d)
IsReduced-ratio n (pos d) nonzero = IsReduced-reduced n d (positive d nonzero)
  where
    positive : (d : ℕ) → pos d ≢ pos 0 → 0 < d
    positive d h = omega (arith, ints)
IsReduced-ratio n (negsuc d) nonzero = IsReduced-reduced (neg_ℤ n) (suc d) (omega arith)

neg_twice : (z : ℤ) → neg_ℤ (neg_ℤ z) ≡ z
neg_twice z = omega (arith, ints)

*ℤ-neg : (a : ℤ) (d : ℕ) → a *ℤ negsuc d ≡ neg_ℤ (a *ℤ pos (suc d))
*ℤ-neg a d = *ℤ_comm a (negsuc d) ∙ neg_ℤ-*ℤ (pos (suc d)) a ∙ ap neg_ℤ (*ℤ_comm (pos (suc d)) a)

-- `ratio n d` is `n / d`
pub ratio-cross : (n d : ℤ) → (ratio n d).num *ℤ d ≡ n *ℤ pos (ratio n d).den
ratio-cross n (pos d) = reduced-ratio n d
ratio-cross n (negsuc d) =
    let r = reduced (neg_ℤ n) (suc d) in
    *ℤ-neg r.num d ∙ ap neg_ℤ (reduced-ratio (neg_ℤ n) (suc d) ∙ neg_ℤ-*ℤ n (pos r.den)) ∙ neg_twice (n *ℤ pos r.den)

-- what was divided is multiplied back
pub product-quotient : (p q : Fraction) → IsReduced p → 0 < q.den → q.num ≢ pos 0 → product (quotient p q) q ≡ p
product-quotient p q in_p in_q nonzero =
    let d = q.num *ℤ pos p.den in
    let r = ratio (p.num *ℤ pos q.den) d in
    let positive : 0 < r.den = (IsReduced-ratio (p.num *ℤ pos q.den) d (*ℤ_nonzero q.num p.den in_p.positive nonzero)).positive in
    reduced_same (r.num *ℤ q.num) p.num (r.den * q.den) p.den (mul-pos positive in_q) in_p.positive (*ℤ_assoc r.num q.num (pos p.den) ∙ ratio-cross (p.num *ℤ pos q.den) d ∙ *ℤ_assoc p.num (pos q.den) (pos r.den) ∙ ap (λ n. p.num *ℤ pos n) (mul_comm q.den r.den)) ∙ reduced_self p in_p
