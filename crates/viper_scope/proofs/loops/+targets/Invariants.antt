-- The targets of the statements that are left are added to those found so far.
use Rattle.std.proofs.Common.{◌≡◌, drop}
use Rattle.viper_core.specs.View.{stmts_of}
use Rattle.viper_scope.specs.Listed.{ascending}
use Rattle.viper_scope.specs.Target.{targets_from}
use Rattle.viper_scope.proofs.loops.+targets.Given as goal

abbrev pub invariant-add_from-loop-stmt : goal.invariant-add_from-loop-stmt
invariant-add_from-loop-stmt l =
    targets_from l.below (ascending l.found.items) (stmts_of (drop l.stmt-index l.body)) ≡ targets_from l.below (ascending l.fn.found.items) (stmts_of l.body)
