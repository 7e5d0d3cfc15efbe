use Rattle.std.proofs.Common.{◌≤◌}
use Rattle.search_refuting.proofs.refuting.refute.Given as goal

abbrev pub invariant-loop-round : goal.invariant-loop-round
invariant-loop-round l = l.fuel.left ≤ l.fn.fuel.left

abbrev pub decreases-loop-round : goal.decreases-loop-round
decreases-loop-round l = l.fuel.left
