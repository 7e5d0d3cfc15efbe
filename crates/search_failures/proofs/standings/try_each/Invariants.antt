use Rattle.std.proofs.Common.{◌≤◌}
use Rattle.search_failures.proofs.standings.try_each.Given as goal

abbrev pub invariant-loop-place : goal.invariant-loop-place
invariant-loop-place l = l.fuel.left ≤ l.fn.fuel.left
