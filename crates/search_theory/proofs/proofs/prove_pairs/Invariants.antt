use Rattle.std.proofs.Common.{◌≤◌}
use Rattle.search_theory.proofs.proofs.prove_pairs.Given as goal

abbrev pub invariant-loop-a : goal.invariant-loop-a
invariant-loop-a l = l.fuel.left ≤ l.fn.fuel.left
