use Rattle.std.proofs.Common.{◌≤◌}
use Rattle.search_reading.proofs.conditions.read.Given as goal

abbrev pub invariant-loop-definition : goal.invariant-loop-definition
invariant-loop-definition l = l.fuel.left ≤ l.fn.fuel.left
