use Rattle.std.proofs.Common.{◌≤◌}
use Rattle.search_state.proofs.prover.Prover.fewer.Given as goal

abbrev pub invariant-loop-todo : goal.invariant-loop-todo
invariant-loop-todo l = l.fuel.left ≤ l.fn.fuel.left

abbrev pub decreases-loop-todo : goal.decreases-loop-todo
decreases-loop-todo l = l.fuel.left
