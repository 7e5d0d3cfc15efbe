use Rattle.std.proofs.Common.{◌≤◌}
use Rattle.search_theory.proofs.proofs.prove.Given as goal

abbrev pub invariant-loop-x : goal.invariant-loop-x
invariant-loop-x l = l.fuel.left ≤ l.fn.fuel.left

abbrev pub decreases-loop-x : goal.decreases-loop-x
decreases-loop-x l = l.fuel.left
