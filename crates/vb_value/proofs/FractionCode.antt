-- What the code of fractions computes, by the definitions.
use Rattle.std.proofs.Common.{◌≡◌, ℕ, ◌/◌, ◌^◌, ◌<◌, refl, ap, ◌∙◌, arith, ℤ, pos, unsigned_abs, ◌&&◌, Result, Ok, Err, IsErr, FitsSigned, to_z, of_z}
use Rattle.std.specs.Int.{w128}
use Rattle.std.specs.Int.RustNames.{int_div}
use Rattle.std.proofs.lemmas.Bool.{and_right}
use Rattle.std.proofs.lemmas.Int.{ints, quot_is, quot_fits, to_z-of_z, to_z_pos}
use Rattle.vb_value.specs.Bound.{IsWithin, is_within, value_if}
use Rattle.vb_value.specs.declared.numbers.Over.{Over}
use Rattle.vb_value.specs.Gcd.{gcd}
use Rattle.vb_value.specs.Fraction.{Fraction, reduced, ratio}
use Rattle.vb_value.proofs.BoundLaws.{read_back, fits_from_ok, ok_from_fits, refused_from_err, over_from_refused, and_four}

-- the machine's quotient by a positive number is the quotient
pub code_quotient : (n : ℤ) (g : ℕ) → FitsSigned w128 n → 0 < g → g < 2 ^ 127 → to_z w128 (of_z w128 (int_div (to_z w128 (of_z w128 n)) (to_z w128 g))) ≡ int_div n (pos g)
code_quotient n g fits positive small =
    quot_is w128 n (pos g) fits (record { sfits = small }) (quot_fits w128 n (pos g) fits (omega (arith, ints)))

pub quotient_fits : (n : ℤ) (g : ℕ) → FitsSigned w128 n → 0 < g → g < 2 ^ 127 → FitsSigned w128 (int_div (to_z w128 (of_z w128 n)) (to_z w128 g))
quotient_fits n g fits positive small =
    rw (to_z-of_z w128 n fits, to_z_pos w128 g small) (quot_fits w128 n (pos g) fits (omega (arith, ints)))

-- two numbers divided by their greatest common divisor are the fraction in lowest terms
pub reduced_is : (n : ℤ) (d g : ℕ) → g ≡ gcd (unsigned_abs n) d → let f : Fraction = record { num = int_div n (pos g); den = d / g } in f ≡ reduced n d
unfolding reduced
reduced_is n d g e = ap (λ (g : ℕ). let f : Fraction = record { num = int_div n (pos g); den = d / g } in f) e

-- two numerators over one denominator, combined and reduced: Over exactly where one of the four numbers does not fit
pub combined_answer : (op : ℤ → ℤ → ℤ) (x y : ℤ) (d : ℕ) (left right num : ℤ) (den : ℕ) (f : Fraction) → Ok left ≡ value_if (is_within x) x → IsWithin left → Ok right ≡ value_if (is_within y) y → IsWithin right → Ok den ≡ value_if (is_within (pos d)) d → Ok num ≡ value_if (is_within (op (to_z w128 (of_z w128 left)) (to_z w128 (of_z w128 right)))) (op (to_z w128 (of_z w128 left)) (to_z w128 (of_z w128 right))) → IsWithin num → f ≡ reduced (to_z w128 (of_z w128 num)) den → Ok f ≡ value_if (is_within x && (is_within y && (is_within (pos d) && is_within (op x y)))) (reduced (op x y) d)
combined_answer op x y d left right num den f is_left in_left is_right in_right is_den is_num in_num is_f =
    let l = fits_from_ok (is_within x) x left is_left in
    let r = fits_from_ok (is_within y) y right is_right in
    let b = fits_from_ok (is_within (pos d)) d den is_den in
    let same : op (to_z w128 (of_z w128 left)) (to_z w128 (of_z w128 right)) ≡ op x y = rw (read_back left in_left, read_back right in_right, l.1, r.1) refl in
    let n = fits_from_ok (is_within (op x y)) (op x y) num (rw same at is_num) in
    ok_from_fits _ _ _ (and_four _ _ _ _ l.0 r.0 b.0 n.0) (is_f ∙ ap (λ z. reduced z den) (read_back num in_num ∙ n.1) ∙ ap (reduced (op x y)) b.1)

-- and where their combination is Over, so is the answer
pub combined_over : (op : ℤ → ℤ → ℤ) (x y : ℤ) (d : ℕ) (left right : ℤ) (e : Over) (answer : Result Fraction Over) → IsErr answer → Ok left ≡ value_if (is_within x) x → IsWithin left → Ok right ≡ value_if (is_within y) y → IsWithin right → Err e ≡ value_if (is_within (op (to_z w128 (of_z w128 left)) (to_z w128 (of_z w128 right)))) (op (to_z w128 (of_z w128 left)) (to_z w128 (of_z w128 right))) → answer ≡ value_if (is_within x && (is_within y && (is_within (pos d) && is_within (op x y)))) (reduced (op x y) d)
combined_over op x y d left right e answer is_err is_left in_left is_right in_right is_over =
    let l = fits_from_ok (is_within x) x left is_left in
    let r = fits_from_ok (is_within y) y right is_right in
    let same : op (to_z w128 (of_z w128 left)) (to_z w128 (of_z w128 right)) ≡ op x y = rw (read_back left in_left, read_back right in_right, l.1, r.1) refl in
    let last = refused_from_err (is_within (op x y)) (op x y) e (rw same at is_over) in
    over_from_refused answer _ _ is_err (and_right (is_within x) _ (and_right (is_within y) _ (and_right (is_within (pos d)) _ last)))

-- a numerator over a denominator, reduced: Over exactly where one of the two does not fit
pub product_answer : (x : ℤ) (d : ℕ) (num : ℤ) (den : ℕ) (f : Fraction) → Ok num ≡ value_if (is_within x) x → IsWithin num → Ok den ≡ value_if (is_within (pos d)) d → f ≡ reduced (to_z w128 (of_z w128 num)) den → Ok f ≡ value_if (is_within x && is_within (pos d)) (reduced x d)
product_answer x d num den f is_num in_num is_den is_f =
    let n = fits_from_ok (is_within x) x num is_num in
    let b = fits_from_ok (is_within (pos d)) d den is_den in
    ok_from_fits _ _ _ (rw (n.0, b.0) refl) (is_f ∙ ap (λ z. reduced z den) (read_back num in_num ∙ n.1) ∙ ap (reduced x) b.1)

-- the same, where the denominator may be negative
pub ratio_answer : (x z num den : ℤ) (f : Fraction) → num ≡ x → IsWithin x → Ok den ≡ value_if (is_within z) z → IsWithin den → f ≡ ratio (to_z w128 (of_z w128 num)) (to_z w128 (of_z w128 den)) → Ok f ≡ value_if (is_within z) (ratio x z)
ratio_answer x z num den f is_num in_x is_den in_den is_f =
    let d = fits_from_ok (is_within z) z den is_den in
    let top : to_z w128 (of_z w128 num) ≡ x = ap (λ n. to_z w128 (of_z w128 n)) is_num ∙ read_back x in_x in
    ok_from_fits (is_within z) (ratio x z) f d.0 (is_f ∙ ap (λ n. ratio n (to_z w128 (of_z w128 den))) top ∙ ap (ratio x) (read_back den in_den ∙ d.1))
