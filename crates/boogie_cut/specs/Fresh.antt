-- The names of further locals.
use Rattle.std.specs.Prelude.{◌+◌, ◌++◌, ◌==◌, ℕ, zero, suc, Bool as Truth, false, List, [], ◌∷◌, length, codes, if◌then◌else◌}
use Rattle.std.specs.List.{list_any}
use Rattle.std.specs.Str.{bytes_eq}
use Rattle.std.specs.Fmt.{decimal}
use Rattle.boogie_tree.specs.Program.{BType, Local}

-- `a` and a number
abbrev pub numbered : ℕ → List ℕ
numbered n = codes "a" ++ decimal n

abbrev pub is_among : List ℕ → List (List ℕ) → Truth
is_among name names = list_any (bytes_eq name) names

-- of the numbers from n on, the first k of them, the first whose name is none of these, or the one after them
abbrev pub free_number : ℕ → ℕ → List (List ℕ) → ℕ
free_number zero n taken = n
free_number (suc k) n taken = if is_among (numbered n) taken then free_number k (n + 1) taken else n

-- a local of each of these types, with names from the number n on that are none of `taken`
abbrev pub fresh_locals : List (List ℕ) → ℕ → List BType → List Local
fresh_locals taken n [] = []
fresh_locals taken n (u ∷ us) =
    let k = free_number (length taken) n taken in
    record { name = numbered k; ty = u } ∷ fresh_locals taken (k + 1) us

-- the names that might be numbered: they begin with an `a`
abbrev pub is_a : List ℕ → Truth
is_a [] = false
is_a (b ∷ bytes) = b == 97
