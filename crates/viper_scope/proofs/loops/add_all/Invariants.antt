-- The variables that are left are added to those found so far.
use Rattle.std.proofs.Common.{◌≡◌, drop}
use Rattle.viper_scope.specs.Listed.{ascending}
use Rattle.viper_scope.specs.Target.{with_targets}
use Rattle.viper_scope.proofs.loops.add_all.Given as goal

abbrev pub invariant-loop-x : goal.invariant-loop-x
invariant-loop-x l = with_targets l.below (ascending l.found.items) (drop l.x-index l.xs) ≡ with_targets l.below (ascending l.fn.found.items) l.xs
