-- The words that are reserved where loops, calls and contracts are written, besides those of the other programs.
use Rattle.std.specs.Prelude.{ℕ, Bool, not, List, [], ◌∷◌, codes}
use Rattle.std.specs.List.{list_all}
use Rattle.boogie_grammar.specs.Words.{is_among}

abbrev pub while_word : List ℕ
while_word = codes "while"

abbrev pub call_word : List ℕ
call_word = codes "call"

abbrev pub invariant_word : List ℕ
invariant_word = codes "invariant"

abbrev pub requires_word : List ℕ
requires_word = codes "requires"

abbrev pub ensures_word : List ℕ
ensures_word = codes "ensures"

abbrev pub returns_word : List ℕ
returns_word = codes "returns"

abbrev pub wide_words : List (List ℕ)
wide_words = while_word ∷ call_word ∷ invariant_word ∷ requires_word ∷ ensures_word ∷ returns_word ∷ []

-- whether none of these names is one of the words
abbrev pub has_no_word : List (List ℕ) → Bool
has_no_word names = list_all (λ x. not (is_among x wide_words)) names
