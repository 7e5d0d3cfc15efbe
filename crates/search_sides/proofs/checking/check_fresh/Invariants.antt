use Rattle.std.proofs.Common.{◌≤◌}
use Rattle.search_sides.proofs.checking.check_fresh.Given as goal

abbrev pub invariant-loop-at : goal.invariant-loop-at
invariant-loop-at l = l.fuel.left ≤ l.fn.fuel.left

abbrev pub decreases-loop-at : goal.decreases-loop-at
decreases-loop-at l = l.fuel.left
