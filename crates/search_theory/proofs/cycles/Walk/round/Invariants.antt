use Rattle.std.proofs.Common.{◌≤◌}
use Rattle.search_theory.proofs.cycles.Walk.round.Given as goal

abbrev pub invariant-loop-visit : goal.invariant-loop-visit
invariant-loop-visit l = l.fuel.left ≤ l.fn.fuel.left

abbrev pub decreases-loop-visit : goal.decreases-loop-visit
decreases-loop-visit l = l.fuel.left
