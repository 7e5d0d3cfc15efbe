use Rattle.std.proofs.Common.{◌≤◌}
use Rattle.search_sides.proofs.checking.take_merges.Given as goal

abbrev pub invariant-loop-a : goal.invariant-loop-a
invariant-loop-a l = l.fuel.left ≤ l.fn.fuel.left

abbrev pub decreases-loop-a : goal.decreases-loop-a
decreases-loop-a l = l.fuel.left
