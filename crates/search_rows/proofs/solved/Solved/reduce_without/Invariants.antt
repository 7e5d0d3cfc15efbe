use Rattle.std.proofs.Common.{◌≤◌}
use Rattle.search_rows.proofs.solved.Solved.reduce_without.Given as goal

abbrev pub invariant-loop : goal.invariant-loop
invariant-loop l = l.fuel.left ≤ l.fn.fuel.left
