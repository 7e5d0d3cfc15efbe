use Rattle.std.proofs.Common.{◌≤◌}
use Rattle.search_looking.proofs.foralls.triggered.Given as goal

abbrev pub invariant-loop-number : goal.invariant-loop-number
invariant-loop-number l = l.fuel.left ≤ l.fn.fuel.left
