-- The numbers of procedures by their names.
use Rattle.std.specs.Prelude.{◌≡◌, ℕ, ◌==◌, List, Option, Some, None, find, slice_get}
use Rattle.std.specs.Cmp.Lexicographic.{pointwise}
use Rattle.std.specs.Map.{lookup}
use Rattle.std.specs.Str.{bytes_eq}
use Rattle.boogie_loops.specs.View.{wproc_of}
use Rattle.boogie_loops.specs.declared.wide.WProc.{WProc}

-- the procedure of this number, if there is one
abbrev pub at_number : List WProc → Option ℕ → Option WProc
at_number ds None = None
at_number ds (Some i) = slice_get ds i

-- the first procedure of this name
abbrev pub first_named : List WProc → List ℕ → Option WProc
first_named ds name = find (λ d. bytes_eq (wproc_of d).name name) ds

-- the table has the number of the first procedure of each name
abbrev pub HaveNumbers : List (List ℕ × ℕ) → List WProc → Type 0
HaveNumbers numbers ds = (name : List ℕ) → at_number ds (lookup (pointwise ◌==◌ name) numbers) ≡ first_named ds name
