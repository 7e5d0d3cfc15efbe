use Rattle.std.proofs.Common.{◌≤◌}
use Rattle.search_bounds.proofs.cuts.divided_row.Given as goal

abbrev pub invariant-loop-divisor : goal.invariant-loop-divisor
invariant-loop-divisor l = l.fuel.left ≤ l.fn.fuel.left
