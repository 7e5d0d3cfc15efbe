use Rattle.std.proofs.Common.{◌≤◌}
use Rattle.search_numbers.proofs.numbers.NumberTheory.near_all.Given as goal

abbrev pub invariant-loop-term : goal.invariant-loop-term
invariant-loop-term l = l.fuel.left ≤ l.fn.fuel.left

abbrev pub decreases-loop-term : goal.decreases-loop-term
decreases-loop-term l = l.fuel.left
