use Rattle.std.proofs.Common.{◌≤◌}
use Rattle.search_looking.proofs.looking.look.Given as goal

abbrev pub invariant-loop-fuel : goal.invariant-loop-fuel
invariant-loop-fuel l = l.fuel.left ≤ l.fn.fuel.left

abbrev pub decreases-loop-fuel : goal.decreases-loop-fuel
decreases-loop-fuel l = l.fuel.left
