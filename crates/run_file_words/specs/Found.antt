-- The content with which the words of a line begin, as code finds it.
use Rattle.std.specs.Prelude.{◌≡◌, ◌+◌, ◌≤◌, ℕ, List, ◌∷◌, Option, None, Some, codes}
use Rattle.std.specs.Borrow.{Bor}
use Rattle.vb_value.specs.Content.{Content, nodes}
use Rattle.vb_value.specs.View.{content_of}
use Rattle.vb_value.specs.declared.contents.Content.{Content as Code}
use Rattle.run_file_words.specs.Text.{words_of}
use Rattle.run_file_words.specs.Values.{BeginsWithContent}

-- the content of at most so many nodes, the words behind it, and how many more nodes there might have been
abbrev pub IsFound : List (List ℕ) → ℕ → Option (Code × Bor (List ℕ) × ℕ) → Type 0
IsFound words room None = (c : Content) (rest : List (List ℕ)) → BeginsWithContent words c rest → nodes c ≤ room → ⊥
IsFound words room (Some r) = BeginsWithContent words (content_of r.0) (words_of r.1.now) × (nodes (content_of r.0) + r.2 ≡ room)

-- the same behind `leaf`, and behind `pair`, where the node itself is counted
abbrev pub IsLeafFound : List (List ℕ) → ℕ → Option (Code × Bor (List ℕ) × ℕ) → Type 0
IsLeafFound words room = IsFound (codes "leaf" ∷ words) (room + 1)

abbrev pub IsPairFound : List (List ℕ) → ℕ → Option (Code × Bor (List ℕ) × ℕ) → Type 0
IsPairFound words room = IsFound (codes "pair" ∷ words) (room + 1)
