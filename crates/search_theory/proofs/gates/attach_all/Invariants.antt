use Rattle.std.proofs.Common.{◌≤◌}
use Rattle.search_theory.proofs.gates.attach_all.Given as goal

abbrev pub invariant-loop-step : goal.invariant-loop-step
invariant-loop-step l = l.fuel.left ≤ l.fn.fuel.left
