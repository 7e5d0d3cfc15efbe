-- The place of the first item that passes a test.
use Rattle.std.proofs.Common.{◌≡◌, ◌∙◌, refl, ap, arith, ℕ, suc, ◌+◌, Bool, true, false, not, cond, nat_lt, List, [], ◌∷◌, ◌++◌, length, Option, Some, None}
use Rattle.std.specs.List.{position, prefix_len}
use Rattle.std.specs.Option.{option_map}
use Rattle.std.proofs.lemmas.Bool.{cond-true, cond-false}
use Rattle.std.proofs.lemmas.Bool.Decides.{nat_tests}

module _ {X : Type 0} (test : X → Bool) where
  abbrev pub first_passing : List X → Option ℕ
  first_passing [] = None
  first_passing (x ∷ xs) = cond (test x) (Some 0) (option_map suc (first_passing xs))

  later_at : (l n : ℕ) (b : Bool) → nat_lt l n ≡ b → cond (nat_lt (1 + l) (suc n)) (Some (1 + l)) None ≡ option_map suc (cond b (Some l) None)
  later_at l n true e =
      let h : nat_lt (1 + l) (suc n) ≡ true = grind (arith, nat_tests) in
      let one : 1 + l ≡ suc l = omega arith in
      cond-true (nat_lt (1 + l) (suc n)) (Some (1 + l)) None h ∙ ap (λ k. Some k) one
  later_at l n false e =
      let h : nat_lt (1 + l) (suc n) ≡ false = grind (arith, nat_tests) in
      cond-false (nat_lt (1 + l) (suc n)) (Some (1 + l)) None h

  first_at : (n : ℕ) → cond {A = Option ℕ} (nat_lt 0 (suc n)) (Some 0) None ≡ Some 0
  first_at n = let h : nat_lt 0 (suc n) ≡ true = grind (arith, nat_tests) in cond-true {A = Option ℕ} (nat_lt 0 (suc n)) (Some 0) None h

  by_first : (b : Bool) (l n : ℕ) (o : Option ℕ) → cond (nat_lt l n) (Some l) None ≡ o →
      cond (nat_lt (cond (not b) (1 + l) 0) (suc n)) (Some (cond (not b) (1 + l) 0)) None ≡ cond b (Some 0) (option_map suc o)
  by_first true l n o h = first_at n
  by_first false l n o h = later_at l n (nat_lt l n) refl ∙ ap (option_map suc) h

  pub position_is : (xs : List X) → position test xs ≡ first_passing xs
  position_is [] = refl
  position_is (x ∷ xs) = by_first (test x) (prefix_len (λ y. not (test y)) xs) (length xs) (first_passing xs) (position_is xs)

  -- with one item more

  found_at : (b : Bool) (o p : Option ℕ) (n : ℕ) → ((m : ℕ) → o ≡ Some m → p ≡ Some m) → cond b (Some 0) (option_map suc o) ≡ Some n → cond b (Some 0) (option_map suc p) ≡ Some n
  found_at true o p n later h = h
  found_at false (Some m) p n later h = ap (option_map suc) (later m refl) ∙ h
  found_at false None p n later h = absurd cc

  pub still_found : (xs ys : List X) (n : ℕ) → first_passing xs ≡ Some n → first_passing (xs ++ ys) ≡ Some n
  still_found [] ys n h = absurd cc
  still_found (x ∷ xs) ys n h = found_at (test x) (first_passing xs) (first_passing (xs ++ ys)) n (λ m. still_found xs ys m) h

  none_at : (b : Bool) (o : Option ℕ) → cond b (Some 0) (option_map suc o) ≡ None → (b ≡ false) × (o ≡ None)
  none_at true o h = absurd cc
  none_at false (Some m) h = absurd cc
  none_at false None h = (refl, refl)

  pub now_found : (xs : List X) (x : X) → first_passing xs ≡ None → test x ≡ true → first_passing (xs ++ x ∷ []) ≡ Some (length xs)
  now_found [] x h passes = cond-true (test x) (Some 0) None passes
  now_found (y ∷ ys) x h passes =
      let parts = none_at (test y) (first_passing ys) h in
      cond-false (test y) (Some 0) (option_map suc (first_passing (ys ++ x ∷ []))) parts.0 ∙ ap (option_map suc) (now_found ys x parts.1 passes)

  pub not_found : (xs : List X) (x : X) → first_passing xs ≡ None → test x ≡ false → first_passing (xs ++ x ∷ []) ≡ None
  not_found [] x h fails = cond-false (test x) (Some 0) None fails
  not_found (y ∷ ys) x h fails =
      let parts = none_at (test y) (first_passing ys) h in
      cond-false (test y) (Some 0) (option_map suc (first_passing (ys ++ x ∷ []))) parts.0 ∙ ap (option_map suc) (not_found ys x parts.1 fails)
