use Rattle.std.proofs.Common.{◌≤◌}
use Rattle.search_theory.proofs.proofs.equations.Given as goal

abbrev pub invariant-loop-edge : goal.invariant-loop-edge
invariant-loop-edge l = l.fuel.left ≤ l.fn.fuel.left
