-- Marks on the numbers that were seen, and the numbers that are left.
use Rattle.std.proofs.Common.{◌≡◌, ◌≢◌, ◌∙◌, ◌==◌, ◌&&◌, ◌<◌, ℕ, Bool as Truth, true, false, not, cond, List, [], ◌∷◌, length, get_or, set, refl, sym, ap}
use Rattle.std.proofs.lemmas.Bool.Decides.{Decides-eqb}
use Rattle.std.proofs.lemmas.List.{get_or-set_same, get_or-set_other}
use Rattle.std.specs.List.{list_all}
use Rattle.boogie_loops.specs.WideTypes.{all_differ}
use Rattle.boogie_loops_types.specs.Marks.{IsClear, are_new, is_marked}

-- with no marks
pub clear_are_new : (marks : List Truth) → IsClear marks → (xs : List ℕ) → all_differ xs ≡ are_new marks xs
clear_are_new marks clear xs = at (all_differ xs) (by xs)
  where
    by : (xs : List ℕ) → list_all (λ j. not (is_marked marks j)) xs ≡ true
    by [] = refl
    by (x ∷ xs) = ap (λ b. not b && list_all (λ j. not (is_marked marks j)) xs) (clear x) ∙ by xs

    at : (a : Truth) {b : Truth} → b ≡ true → a ≡ (a && b)
    at true h = sym h
    at false h = refl

module _ (marks : List Truth) (x : ℕ) (within : x < length marks) where
  marked_more : (j : ℕ) (b : Truth) → (x == j) ≡ b → not (is_marked (set marks x true) j) ≡ (not b && not (is_marked marks j))
  marked_more j true e = ap (λ k. not (is_marked (set marks x true) k)) (sym ((Decides-eqb x j).0 e)) ∙ ap not (get_or-set_same marks x true false within)
  marked_more j false e = ap not (get_or-set_other marks x j true false (λ same. let d = (Decides-eqb x j).1 (sym same) in absurd (cc)))

  all_more : (xs : List ℕ) → list_all (λ j. not (is_marked (set marks x true) j)) xs ≡ (list_all (λ j. not (x == j)) xs && list_all (λ j. not (is_marked marks j)) xs)
  all_more [] = refl
  all_more (j ∷ xs) =
      (λ i. marked_more j (x == j) refl i && all_more xs i) ∙ four (not (x == j)) (not (is_marked marks j)) (list_all (λ j. not (x == j)) xs) (list_all (λ j. not (is_marked marks j)) xs)
    where
      four : (a b c d : Truth) → ((a && b) && (c && d)) ≡ ((a && c) && (b && d))
      four true true c d = refl
      four true false true d = refl
      four true false false d = refl
      four false b c d = refl

  -- a number that is marked now and was not
  pub first_is_new : (xs : List ℕ) → not (is_marked marks x) ≡ true → are_new marks (x ∷ xs) ≡ are_new (set marks x true) xs
  first_is_new xs h =
      ap (λ n. all_differ (x ∷ xs) && (n && list_all (λ j. not (is_marked marks j)) xs)) h
      ∙ at (list_all (λ j. not (x == j)) xs) (all_differ xs) (list_all (λ j. not (is_marked marks j)) xs)
      ∙ ap (λ r. all_differ xs && r) (sym (all_more xs))
    where
      at : (c e d : Truth) → ((c && e) && (true && d)) ≡ (e && (c && d))
      at true true d = refl
      at true false d = refl
      at false true d = refl
      at false false d = refl
