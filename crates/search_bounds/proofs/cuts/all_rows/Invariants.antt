use Rattle.std.proofs.Common.{◌≤◌}
use Rattle.search_bounds.proofs.cuts.all_rows.Given as goal

abbrev pub invariant-loop-at : goal.invariant-loop-at
invariant-loop-at l = l.fuel.left ≤ l.fn.fuel.left
