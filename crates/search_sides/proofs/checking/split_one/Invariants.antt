use Rattle.std.proofs.Common.{◌≤◌}
use Rattle.search_sides.proofs.checking.split_one.Given as goal

abbrev pub invariant-loop-equation : goal.invariant-loop-equation
invariant-loop-equation l = l.fuel.left ≤ l.fn.fuel.left
