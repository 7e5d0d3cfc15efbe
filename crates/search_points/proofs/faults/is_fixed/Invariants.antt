use Rattle.std.proofs.Common.{◌≤◌}
use Rattle.search_points.proofs.faults.is_fixed.Given as goal

abbrev pub invariant-loop-by : goal.invariant-loop-by
invariant-loop-by l = l.fuel.left ≤ l.fn.fuel.left
