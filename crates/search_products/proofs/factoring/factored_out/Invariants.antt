use Rattle.std.proofs.Common.{◌≤◌}
use Rattle.search_products.proofs.factoring.factored_out.Given as goal

abbrev pub invariant-loop-row : goal.invariant-loop-row
invariant-loop-row l = l.fuel.left ≤ l.fn.fuel.left
