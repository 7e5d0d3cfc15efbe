use Rattle.std.proofs.Common.{◌≤◌}
use Rattle.search_models.proofs.spelling.put_keys.Given as goal

abbrev pub invariant-loop-key : goal.invariant-loop-key
invariant-loop-key l = l.fuel.left ≤ l.fn.fuel.left
