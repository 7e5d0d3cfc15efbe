use Rattle.std.proofs.Common.{◌≡◌, ℕ, ◌<◌, ◌≤◌, ap, ◌∙◌, arith, ℤ, unsigned_abs, FitsSigned, to_z, of_z}
use Rattle.std.specs.Int.{w128}
use Rattle.std.proofs.lemmas.Int.{to_z-of_z}
use Rattle.vb_value.specs.Gcd.{gcd}
use Rattle.vb_value.proofs.GcdLaws.{gcd_pos, gcd_le}
use Rattle.vb_value.proofs.FractionCode.{code_quotient, reduced_is, quotient_fits}
use Rattle.vb_value.proofs.FractionLaws.{IsRepresentable-reduced}
use Rattle.vb_value.proofs.fractions.lowest_terms.Goals as goal

-- the divisor that the code finds
divisor_is : (n : ℤ) (d a g : ℕ) → FitsSigned w128 n → 0 < d → a ≡ unsigned_abs (to_z w128 (of_z w128 n)) → g ≡ gcd a d → (g ≡ gcd (unsigned_abs n) d) × (0 < g) × (g ≤ d)
divisor_is n d a g fits positive size is =
    let e : g ≡ gcd (unsigned_abs n) d = is ∙ ap (λ m. gcd m d) (size ∙ ap unsigned_abs (to_z-of_z w128 n fits)) in
    (e, rw e (gcd_pos (unsigned_abs n) d positive), rw e (gcd_le (unsigned_abs n) d positive))

pub overflow_cast-result : goal.overflow_cast-result
overflow_cast-result c =
    let g = divisor_is _ _ _ _ c.ranges.num c.requires.positive c.unsigned_abs.ensures.value c.greatest_common_divisor-divisor.ensures in
    record { sfits = omega arith }

pub nonzero_div-result : goal.nonzero_div-result
nonzero_div-result c =
    let g = divisor_is _ _ _ _ c.ranges.num c.requires.positive c.unsigned_abs.ensures.value c.greatest_common_divisor-divisor.ensures in
    (g.1, quotient_fits _ _ c.ranges.num g.1 (omega arith))

pub nonzero_div-result-2 : goal.nonzero_div-result-2
nonzero_div-result-2 c =
    (divisor_is _ _ _ _ c.ranges.num c.requires.positive c.unsigned_abs.ensures.value c.greatest_common_divisor-divisor.ensures).1

pub invariant_of-result : goal.invariant_of-result
invariant_of-result c =
    let g = divisor_is _ _ _ _ c.ranges.num c.requires.positive c.unsigned_abs.ensures.value c.greatest_common_divisor-divisor.ensures in
    rw (code_quotient _ _ c.ranges.num g.1 (omega arith), reduced_is _ _ _ g.0) (IsRepresentable-reduced c.args.num c.args.den c.requires.num_within c.requires.positive c.requires.den_within)

pub returns : goal.returns
returns c =
    let g = divisor_is _ _ _ _ c.ranges.num c.requires.positive c.unsigned_abs.ensures.value c.greatest_common_divisor-divisor.ensures in
    rw (code_quotient _ _ c.ranges.num g.1 (omega arith)) (reduced_is _ _ _ g.0)
