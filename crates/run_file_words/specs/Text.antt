-- A run file is lines, and a line is words.
use Rattle.std.specs.Prelude.{ℕ, Bool, not, ◌==◌, ◌||◌, nat_eq, List, [], Option, None, Some, filter, map, codes}
use Rattle.std.specs.Borrow.{Bor}
use Rattle.std.specs.List.{slice_split, starts_with}
use Rattle.moves.specs.Lists.{is_empty}

-- lines are divided by the byte 10
abbrev pub lines_of : List ℕ → List (List ℕ)
lines_of bytes = slice_split (λ b. b == 10) bytes

-- a space, a tab or a carriage return
abbrev pub is_blank : ℕ → Bool
is_blank b = b == 32 || b == 9 || b == 13

-- words are what stands between blanks
unfoldable pub words_of : List ℕ → List (List ℕ)
words_of line = filter (λ w. not (is_empty w)) (slice_split is_blank line)

-- a line without words, or one that begins with `//`
abbrev pub is_skipped : List ℕ → Bool
is_skipped line = starts_with nat_eq line (codes "//") || is_empty (words_of line)

-- the words of each line that is not skipped
abbrev pub told : List (List ℕ) → List (List (List ℕ))
told lines = map words_of (filter (λ l. not (is_skipped l)) lines)

-- the lines of the text that is left, if there is any
abbrev pub lines_left : Option (Bor (List ℕ)) → List (List ℕ)
lines_left None = []
lines_left (Some text) = lines_of text.now
