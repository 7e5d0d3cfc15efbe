use Rattle.std.proofs.Common.{◌≤◌}
use Rattle.search_points.proofs.tree.point.Given as goal

abbrev pub invariant-loop-depth : goal.invariant-loop-depth
invariant-loop-depth l = l.fuel.left ≤ l.fn.fuel.left
