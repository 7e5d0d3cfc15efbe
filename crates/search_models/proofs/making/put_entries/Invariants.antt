use Rattle.std.proofs.Common.{◌≤◌}
use Rattle.search_models.proofs.making.put_entries.Given as goal

abbrev pub invariant-loop-n : goal.invariant-loop-n
invariant-loop-n l = l.fuel.left ≤ l.fn.fuel.left
