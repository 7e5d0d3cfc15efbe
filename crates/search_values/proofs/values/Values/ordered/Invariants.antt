use Rattle.std.proofs.Common.{◌≤◌}
use Rattle.search_values.proofs.values.Values.ordered.Given as goal

abbrev pub invariant-loop-is_above : goal.invariant-loop-is_above
invariant-loop-is_above l = l.fuel.left ≤ l.fn.fuel.left
