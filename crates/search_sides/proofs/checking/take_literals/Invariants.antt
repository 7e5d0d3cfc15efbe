use Rattle.std.proofs.Common.{◌≤◌}
use Rattle.search_sides.proofs.checking.take_literals.Given as goal

abbrev pub invariant-loop-literal : goal.invariant-loop-literal
invariant-loop-literal l = l.fuel.left ≤ l.fn.fuel.left

abbrev pub decreases-loop-literal : goal.decreases-loop-literal
decreases-loop-literal l = l.fuel.left
