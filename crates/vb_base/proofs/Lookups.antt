-- The look-up of bytes among things that have texts.
use Rattle.std.proofs.Common.{◌≡◌, ◌≢◌, ◌∙◌, ℕ, Bool, true, false, cond, refl, ap, sym, List, [], ◌∷◌, Option, Some, None}
use Rattle.std.specs.Prelude.{MatchOption, find}
use Rattle.std.specs.Str.{bytes_eq}
use Rattle.std.proofs.lemmas.Slice.Eq.{bytes_eq-Decides}

module _ {X : Type 0} (text : X → List ℕ) where
  -- the first of these that has the bytes
  abbrev pub found : List ℕ → List X → Option X
  found bytes xs = find (λ u. bytes_eq bytes (text u)) xs

  -- what is found has the bytes
  found_has : (bytes : List ℕ) (xs : List X) (x : X) → found bytes xs ≡ Some x → bytes ≡ text x
  found_has bytes [] x h = cc
  found_has bytes (y ∷ ys) x h = by_case (bytes_eq bytes (text y)) (bytes_eq-Decides bytes (text y)).0 (found_has bytes ys x) h where
    by_case : (b : Bool) → (b ≡ true → bytes ≡ text y) → (found bytes ys ≡ Some x → bytes ≡ text x) → cond b (Some y) (found bytes ys) ≡ Some x → bytes ≡ text x
    by_case true same later h = let here : y ≡ x = cc in same refl ∙ ap text here
    by_case false same later h = later h

  not_found : {x : X} → None ≡ Some x → ⊥
  not_found e = cc

  -- where each is found by its own text, the look-up answers exactly what has the bytes
  pub looked_up : (xs : List X) → ((x : X) → found (text x) xs ≡ Some x) → (bytes : List ℕ) (o : Option X) → o ≡ found bytes xs →
      MatchOption o ((x : X) → bytes ≢ text x) (λ x. bytes ≡ text x)
  looked_up xs all bytes None e = λ x h. not_found (e ∙ ap (λ us. found us xs) h ∙ all x)
  looked_up xs all bytes (Some x) e = found_has bytes xs x (sym e)
