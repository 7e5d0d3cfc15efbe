use Rattle.std.proofs.Common.{◌≤◌}
use Rattle.search_models.proofs.spelling.put_model.Given as goal

abbrev pub invariant-loop-variable : goal.invariant-loop-variable
invariant-loop-variable l = l.fuel.left ≤ l.fn.fuel.left

abbrev pub invariant-loop-variable-2 : goal.invariant-loop-variable-2
invariant-loop-variable-2 l = l.fuel.left ≤ l.fn.fuel.left
