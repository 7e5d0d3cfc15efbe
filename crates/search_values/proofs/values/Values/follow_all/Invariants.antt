use Rattle.std.proofs.Common.{◌≤◌}
use Rattle.search_values.proofs.values.Values.follow_all.Given as goal

abbrev pub invariant-loop-self : goal.invariant-loop-self
invariant-loop-self l = l.fuel.left ≤ l.fn.fuel.left

abbrev pub decreases-loop-self : goal.decreases-loop-self
decreases-loop-self l = l.fuel.left
