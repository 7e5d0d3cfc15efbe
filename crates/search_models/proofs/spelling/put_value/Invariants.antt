use Rattle.std.proofs.Common.{◌≤◌}
use Rattle.search_models.proofs.spelling.put_value.Given as goal

abbrev pub invariant-loop-it : goal.invariant-loop-it
invariant-loop-it l = l.fuel.left ≤ l.fn.fuel.left

abbrev pub decreases-loop-it : goal.decreases-loop-it
decreases-loop-it l = l.fuel.left
