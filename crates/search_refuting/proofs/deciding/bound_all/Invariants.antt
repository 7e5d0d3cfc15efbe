use Rattle.std.proofs.Common.{◌≤◌}
use Rattle.search_refuting.proofs.deciding.bound_all.Given as goal

abbrev pub invariant-loop-item : goal.invariant-loop-item
invariant-loop-item l = l.fuel.left ≤ l.fn.fuel.left
