use Rattle.std.proofs.Common.{◌≤◌}
use Rattle.search_polynomials.proofs.ordering.insert.Given as goal

abbrev pub invariant-loop-last : goal.invariant-loop-last
invariant-loop-last l = l.fuel.left ≤ l.fn.fuel.left

abbrev pub decreases-loop-last : goal.decreases-loop-last
decreases-loop-last l = l.fuel.left
