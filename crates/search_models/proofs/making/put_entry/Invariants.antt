use Rattle.std.proofs.Common.{◌≤◌}
use Rattle.search_models.proofs.making.put_entry.Given as goal

abbrev pub invariant-loop-k : goal.invariant-loop-k
invariant-loop-k l = l.fuel.left ≤ l.fn.fuel.left
