use Rattle.std.proofs.Common.{◌≤◌}
use Rattle.search_points.proofs.tree.+descend.Given as goal

abbrev pub invariant-loop-way : goal.invariant-loop-way
invariant-loop-way l = l.fuel.left ≤ l.fn.fuel.left

abbrev pub decreases-descend : goal.decreases-descend
decreases-descend l = l.depth
