use Rattle.std.proofs.Common.{◌≤◌}
use Rattle.search_polynomials.proofs.ordering.join.Given as goal

abbrev pub invariant-loop-k : goal.invariant-loop-k
invariant-loop-k l = l.fuel.left ≤ l.fn.fuel.left
