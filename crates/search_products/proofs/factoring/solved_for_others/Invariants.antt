use Rattle.std.proofs.Common.{◌≤◌}
use Rattle.search_products.proofs.factoring.solved_for_others.Given as goal

abbrev pub invariant-loop-at : goal.invariant-loop-at
invariant-loop-at l = l.fuel.left ≤ l.fn.fuel.left
