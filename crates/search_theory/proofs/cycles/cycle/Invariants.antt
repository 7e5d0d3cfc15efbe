use Rattle.std.proofs.Common.{◌≤◌}
use Rattle.search_theory.proofs.cycles.cycle.Given as goal

abbrev pub invariant-loop-start : goal.invariant-loop-start
invariant-loop-start l = l.fuel.left ≤ l.fn.fuel.left
