-- Digits, two at a time.
use Rattle.std.proofs.Common.{◌≡◌, ℕ, ◌+◌, ◌/◌, ◌%◌, ◌^◌, ◌<◌, ◌≤◌, List, [], ◌∷◌, ◌++◌, length, sym, ap, ◌∙◌, arith, append_assoc, length-append}
use Rattle.std.specs.Fmt.{decimal}
use Rattle.std.proofs.lemmas.Fmt.{decimal_digit, decimal_step_wide}

-- the two digits of a number below 100
abbrev pub pair : ℕ → List ℕ
pair n = (48 + n / 10) ∷ (48 + n % 10) ∷ []

pub two_digits : (n : ℕ) → 10 ≤ n → n < 100 → decimal n ≡ pair n
two_digits n low high = decimal_step_wide n low (omega arith) ∙ ap (λ (t : List ℕ). t ++ (48 + n % 10) ∷ []) (decimal_digit (n / 10) (omega arith))

-- a number ends with the pair of what is left over of 100
pub last_pair : (n : ℕ) → 100 ≤ n → n < 10 ^ 64 → decimal n ≡ decimal (n / 100) ++ pair (n % 100)
last_pair n low high =
    let front : n / 10 / 10 ≡ n / 100 = omega arith in
    let tens : n / 10 % 10 ≡ n % 100 / 10 = omega arith in
    let ones : n % 10 ≡ n % 100 % 10 = omega arith in
    decimal_step_wide n (omega arith) high
    ∙ ap (λ (t : List ℕ). t ++ (48 + n % 10) ∷ []) (decimal_step_wide (n / 10) (omega arith) (omega arith))
    ∙ append_assoc (decimal (n / 10 / 10)) ((48 + n / 10 % 10) ∷ []) ((48 + n % 10) ∷ [])
    ∙ (λ i. decimal (front i) ++ (48 + tens i) ∷ (48 + ones i) ∷ [])

pub length-two_digits : (n : ℕ) → 10 ≤ n → n < 100 → length (decimal n) ≡ 2
length-two_digits n low high = ap length (two_digits n low high)

pub length-last_pair : (n : ℕ) → 100 ≤ n → n < 10 ^ 64 → length (decimal n) ≡ length (decimal (n / 100)) + 2
length-last_pair n low high = ap length (last_pair n low high) ∙ length-append (decimal (n / 100)) (pair (n % 100))

-- the last pair of what is left, put before what stands there
pub pair_before : (n : ℕ) (there more all : List ℕ) → 100 ≤ n → n < 10 ^ 64
    → more ≡ pair (n % 100) ++ there → decimal n ++ there ≡ all → decimal (n / 100) ++ more ≡ all
pair_before n there more all low high more_is same =
    ap (λ (t : List ℕ). decimal (n / 100) ++ t) more_is
    ∙ sym (append_assoc (decimal (n / 100)) (pair (n % 100)) there)
    ∙ ap (λ (t : List ℕ). t ++ there) (sym (last_pair n low high))
    ∙ same
