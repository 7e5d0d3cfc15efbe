use Rattle.std.proofs.Common.{◌≤◌}
use Rattle.search_bounds.proofs.cuts.value_of.Given as goal

abbrev pub invariant-loop-term : goal.invariant-loop-term
invariant-loop-term l = l.fuel.left ≤ l.fn.fuel.left
