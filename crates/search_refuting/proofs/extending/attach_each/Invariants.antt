use Rattle.std.proofs.Common.{◌≤◌}
use Rattle.search_refuting.proofs.extending.attach_each.Given as goal

abbrev pub invariant-loop-step : goal.invariant-loop-step
invariant-loop-step l = l.fuel.left ≤ l.fn.fuel.left
