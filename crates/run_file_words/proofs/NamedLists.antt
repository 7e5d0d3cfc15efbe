-- What is written one after the other, and that it names references that a run file can name.
use Rattle.std.proofs.Common.{◌≡◌, ◌∙◌, ◌+◌, ◌<◌, ℕ, List, ◌∷◌, ◌++◌, drop, length, get_or, sym, ap}
use Rattle.std.proofs.lemmas.List.{drop_more}
use Rattle.run_file_words.proofs.PrintLaws.{regrouped}

-- what is written of one item of a list after the other
pub written_more : {X : Type 0} (F : List X → List ℕ) (G : X → List ℕ) (xs : List X) (i : ℕ) (x : X) (before now all : List ℕ) → ((y : X) (ys : List X) → F (y ∷ ys) ≡ G y ++ F ys) →
    i < length xs → x ≡ get_or xs i x → before ++ F (drop i xs) ≡ all → now ≡ before ++ G x → now ++ F (drop (i + 1) xs) ≡ all
written_more F G xs i x before now all step within is so_far put =
    regrouped before (G x) (F (drop (i + 1) xs)) all now
    (ap (λ ys. before ++ ys) (sym (step x (drop (i + 1) xs)) ∙ ap F (ap (λ y. y ∷ drop (i + 1) xs) is ∙ sym (drop_more xs i x within))) ∙ so_far) put
