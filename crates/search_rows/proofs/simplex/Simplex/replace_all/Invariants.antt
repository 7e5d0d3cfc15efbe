use Rattle.std.proofs.Common.{◌≤◌}
use Rattle.search_rows.proofs.simplex.Simplex.replace_all.Given as goal

abbrev pub invariant-loop-other : goal.invariant-loop-other
invariant-loop-other l = l.fuel.left ≤ l.fn.fuel.left
