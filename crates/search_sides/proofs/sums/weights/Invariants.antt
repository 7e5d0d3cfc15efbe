use Rattle.std.proofs.Common.{◌≤◌}
use Rattle.search_sides.proofs.sums.weights.Given as goal

abbrev pub invariant-loop-source : goal.invariant-loop-source
invariant-loop-source l = l.fuel.left ≤ l.fn.fuel.left
