use Rattle.std.proofs.Common.{◌≤◌}
use Rattle.search_refuting.proofs.bases.kept_bases.Given as goal

abbrev pub invariant-loop : goal.invariant-loop
invariant-loop l = l.fuel.left ≤ l.fn.fuel.left
