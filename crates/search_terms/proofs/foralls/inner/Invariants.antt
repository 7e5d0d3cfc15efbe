use Rattle.std.proofs.Common.{◌≤◌}
use Rattle.search_terms.proofs.foralls.inner.Given as goal

abbrev pub invariant-loop-n : goal.invariant-loop-n
invariant-loop-n l = l.fuel.left ≤ l.fn.fuel.left

abbrev pub decreases-loop-n : goal.decreases-loop-n
decreases-loop-n l = l.fuel.left
