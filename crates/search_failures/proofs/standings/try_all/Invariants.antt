use Rattle.std.proofs.Common.{◌≤◌}
use Rattle.search_failures.proofs.standings.try_all.Given as goal

abbrev pub invariant-loop-by_side : goal.invariant-loop-by_side
invariant-loop-by_side l = l.fuel.left ≤ l.fn.fuel.left
