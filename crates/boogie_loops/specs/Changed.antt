-- What statements change, and the variables that a loop forgets.
use Rattle.std.specs.Prelude.{ℕ, Bool as Truth, false, ◌||◌, ◌==◌, List, length}
use Rattle.std.specs.List.{filter, list_any, range_with_len}
use Rattle.boogie_tree.specs.Program.{BType}
use Rattle.boogie_loops.specs.Wide as w

-- whether a variable is assigned, changed at a place, havocked, or given to a call as a target
abbrev mutual
  pub changes_stmt : w.WStmt → ℕ → Truth
  changes_stmt (w.Assign i e) j = i == j
  changes_stmt (w.Put i es e) j = i == j
  changes_stmt (w.Havoc i) j = i == j
  changes_stmt (w.Assume e) j = false
  changes_stmt (w.Assert l e) j = false
  changes_stmt (w.If e xs ys) j = changes xs j || changes ys j
  changes_stmt (w.Either xs ys) j = changes xs j || changes ys j
  changes_stmt (w.While g invariants xs) j = changes xs j
  changes_stmt (w.Call is name es) j = list_any (λ i. i == j) is

  pub changes : w.WStmts → ℕ → Truth
  changes w.skip j = false
  changes (w.first x xs) j = changes_stmt x j || changes xs j

-- the variables that the body of a loop changes, in order of declaration
abbrev pub targets : List BType → w.WStmts → List ℕ
targets ls xs = filter (changes xs) (range_with_len 0 (length ls))
