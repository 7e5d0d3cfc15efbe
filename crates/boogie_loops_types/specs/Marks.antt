-- Marks on numbers, by which one that stands twice in a list is found.
use Rattle.std.specs.Prelude.{◌≡◌, ◌≢◌, ◌⊎◌, ◌==◌, ◌&&◌, ℕ, Bool as Truth, true, false, not, List, get_or}
use Rattle.std.specs.List.{list_all, list_any}
use Rattle.boogie_loops.specs.WideTypes.{all_differ}

-- whether a number is marked: not where there is no mark for it
abbrev pub is_marked : List Truth → ℕ → Truth
is_marked marks k = get_or marks k false

-- no number is marked
abbrev pub IsClear : List Truth → Type 0
IsClear marks = (k : ℕ) → is_marked marks k ≡ false

-- each number that is marked is one of these
abbrev pub AreAmong : List ℕ → List Truth → Type 0
AreAmong numbers marks = (k : ℕ) → is_marked marks k ≡ true → list_any (λ j. k == j) numbers ≡ true

-- no number of the list stands twice in it, and none is marked
abbrev pub are_new : List Truth → List ℕ → Truth
are_new marks numbers = all_differ numbers && list_all (λ j. not (is_marked marks j)) numbers

-- one more number may be marked, and no further one
abbrev pub MarksOne : List Truth → ℕ → List Truth → Type 0
MarksOne old number new = (k : ℕ) → is_marked new k ≡ true → (k ≡ number) ⊎ (is_marked old k ≡ true)

-- this number is not marked, and no number is that was not
abbrev pub ClearsOne : List Truth → ℕ → List Truth → Type 0
ClearsOne old number new = (k : ℕ) → is_marked new k ≡ true → (k ≢ number) × (is_marked old k ≡ true)
