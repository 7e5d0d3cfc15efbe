use Rattle.std.proofs.Common.{◌≤◌}
use Rattle.search_theory.proofs.gates.gate_all.Given as goal

abbrev pub invariant-loop-literal : goal.invariant-loop-literal
invariant-loop-literal l = l.fuel.left ≤ l.fn.fuel.left
