use Rattle.std.proofs.Common.{◌≤◌}
use Rattle.search_bounds.proofs.branching.equal_in_two.Given as goal

abbrev pub invariant-loop-places : goal.invariant-loop-places
invariant-loop-places l = l.fuel.left ≤ l.fn.fuel.left
