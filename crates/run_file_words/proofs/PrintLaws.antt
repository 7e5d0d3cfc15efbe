-- What is printed of one thing more.
use Rattle.std.proofs.Common.{◌≡◌, ◌∙◌, ◌+◌, ◌<◌, ℕ, List, ◌++◌, append_assoc, length, drop, get_or, Option, slice_get, sym, ap}
use Rattle.lemmas.proofs.Lists.{next_item}
use Rattle.run_file_words.specs.Printed.{named_text, numbered_text}

pub regrouped : (before text rest all now : List ℕ) → before ++ (text ++ rest) ≡ all → now ≡ before ++ text → now ++ rest ≡ all
regrouped before text rest all now h e = ap (λ x. x ++ rest) e ∙ (append_assoc before text rest ∙ h)

pub numbered_more : {X : Type 0} (text : List ℕ → X → List ℕ) (names : List (List ℕ)) (n : ℕ) (xs : List X) (x : X) (before now all : List ℕ) (o : Option (List ℕ)) →
    before ++ numbered_text text names n (drop n xs) ≡ all → n < length xs → x ≡ get_or xs n x → o ≡ slice_get names n → now ≡ before ++ named_text text o x →
    now ++ numbered_text text names (n + 1) (drop (n + 1) xs) ≡ all
numbered_more text names n xs x before now all o h within is named put =
    regrouped before (named_text text (slice_get names n) x) (numbered_text text names (n + 1) (drop (n + 1) xs)) all now
    (sym (ap (λ ys. before ++ numbered_text text names n ys) (next_item xs n x within is)) ∙ h)
    (put ∙ ap (λ y. before ++ named_text text y x) named)
