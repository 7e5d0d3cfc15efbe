-- The table of pairs of digits.
use Rattle.std.proofs.Common.{◌≡◌, ℕ, suc, zero, ◌+◌, ◌*◌, ◌/◌, ◌%◌, ◌<◌, Bool, true, false, ◌&&◌, nat_eq, List, [], ◌∷◌, length, drop, slice_index, slice_set, refl, ap, ◌∙◌, arith, add-one}
use Rattle.std.proofs.lemmas.Bool.{eqb-true}
use Rattle.std.proofs.lemmas.List.{drop-set, length-set}
use Rattle.digits.specs.declared.TheConstants.{PAIRS}

-- whether a row has the two digits of each number from one on
abbrev pub are_pairs_from : ℕ → List ℕ → Bool
are_pairs_from n [] = true
are_pairs_from n (tens ∷ []) = false
are_pairs_from n (tens ∷ ones ∷ row) = nat_eq tens (48 + n / 10) && nat_eq ones (48 + n % 10) && are_pairs_from (suc n) row

all_three : (x y z : Bool) → (x && y && z) ≡ true → (x ≡ true) × (y ≡ true) × (z ≡ true)
all_three true true true e = (refl, refl, refl)
all_three true true false e = absurd cc
all_three true false z e = absurd cc
all_three false y z e = absurd cc

-- the digits of the k-th number of such a row
pub pair_at : (n : ℕ) (row : List ℕ) → are_pairs_from n row ≡ true → (i k : ℕ) → i ≡ 2 * k → i + 1 < length row
    → (slice_index row i ≡ 48 + (n + k) / 10) × (slice_index row (suc i) ≡ 48 + (n + k) % 10)
pair_at n [] e i k twice within = absurd (omega arith)
pair_at n (tens ∷ []) e i k twice within = absurd cc
pair_at n (tens ∷ ones ∷ row) e zero zero twice within =
    let all = all_three (nat_eq tens (48 + n / 10)) (nat_eq ones (48 + n % 10)) (are_pairs_from (suc n) row) e in
    let first : tens ≡ 48 + n / 10 = eqb-true _ _ all.0 in
    let second : ones ≡ 48 + n % 10 = eqb-true _ _ all.1 in
    (omega arith, omega arith)
pair_at n (tens ∷ ones ∷ row) e zero (suc k) twice within = absurd (omega arith)
pair_at n (tens ∷ ones ∷ row) e (suc zero) k twice within = absurd (omega arith)
pair_at n (tens ∷ ones ∷ row) e (suc (suc i)) zero twice within = absurd (omega arith)
pair_at n (tens ∷ ones ∷ row) e (suc (suc i)) (suc k) twice within =
    let all = all_three (nat_eq tens (48 + n / 10)) (nat_eq ones (48 + n % 10)) (are_pairs_from (suc n) row) e in
    let h = pair_at (suc n) row all.2 i k (omega arith) (omega arith) in
    let there : suc n + k ≡ n + suc k = omega arith in
    let first : slice_index row i ≡ 48 + (n + suc k) / 10 = h.0 ∙ ap (λ m. 48 + m / 10) there in
    let second : slice_index row (suc i) ≡ 48 + (n + suc k) % 10 = h.1 ∙ ap (λ m. 48 + m % 10) there in
    (first, second)

-- two bytes written at a place and behind it
pub two_written : (bytes : List ℕ) (place x y : ℕ) → place + 1 < length bytes → drop place (slice_set (slice_set bytes (place + 1) y) place x) ≡ x ∷ y ∷ drop (place + 2) bytes
two_written bytes place x y within =
    let first = drop-set (slice_set bytes (place + 1) y) place x (omega (arith, length-set bytes (place + 1) y)) in
    let second = drop-set bytes (place + 1) y within in
    let behind : place + 1 + 1 ≡ place + 2 = omega arith in
    first ∙ ap (λ (t : List ℕ). x ∷ t) (second ∙ ap (λ at. y ∷ drop at bytes) behind)

pub two_bytes : (front : List ℕ) → length front ≡ 2 → front ≡ slice_index front 0 ∷ slice_index front 1 ∷ []
two_bytes [] two = absurd (omega arith)
two_bytes (x ∷ []) two = absurd (omega arith)
two_bytes (x ∷ y ∷ []) two = refl
two_bytes (x ∷ y ∷ z ∷ front) two = absurd (omega arith)

module _ (bytes : List ℕ) (place n : ℕ) (within : place + 1 < length bytes) where
  from_row : (row : List ℕ) → are_pairs_from 0 row ≡ true → 2 * n + 1 < length row
      → drop place (slice_set (slice_set bytes (place + 1) (slice_index row (2 * n + 1))) place (slice_index row (2 * n))) ≡ (48 + n / 10) ∷ (48 + n % 10) ∷ drop (place + 2) bytes
  from_row row e long =
      let h = pair_at 0 row e (2 * n) n refl long in
      let none : 0 + n ≡ n = omega arith in
      let tens : slice_index row (2 * n) ≡ 48 + n / 10 = h.0 ∙ ap (λ m. 48 + m / 10) none in
      let ones : slice_index row (2 * n + 1) ≡ 48 + n % 10 = ap (slice_index row) (add-one (2 * n)) ∙ h.1 ∙ ap (λ m. 48 + m % 10) none in
      two_written bytes place (slice_index row (2 * n)) (slice_index row (2 * n + 1)) within ∙ (λ i. tens i ∷ ones i ∷ drop (place + 2) bytes)

  pub pair_written : n < 100
      → drop place (slice_set (slice_set bytes (place + 1) (slice_index PAIRS.now (2 * n + 1))) place (slice_index PAIRS.now (2 * n))) ≡ (48 + n / 10) ∷ (48 + n % 10) ∷ drop (place + 2) bytes
  pair_written below = from_row PAIRS.now refl (omega arith)
