use Rattle.std.proofs.Common.{◌≤◌}
use Rattle.search_refuting.proofs.refuting.refute_open.Given as goal

abbrev pub invariant-loop-place : goal.invariant-loop-place
invariant-loop-place l = l.fuel.left ≤ l.fn.fuel.left
