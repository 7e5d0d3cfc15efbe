use Rattle.std.proofs.Common.{◌≤◌}
use Rattle.search_polynomials.proofs.multiplying.multiply_parts.Given as goal

abbrev pub invariant-loop-part : goal.invariant-loop-part
invariant-loop-part l = l.fuel.left ≤ l.fn.fuel.left
