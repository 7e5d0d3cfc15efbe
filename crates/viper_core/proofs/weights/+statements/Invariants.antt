-- What the statements that are left leave is what all of them leave.
use Rattle.std.proofs.Common.{◌≡◌, ◌-◌, drop}
use Rattle.viper_core.specs.View.{program_of, stmts_of}
use Rattle.viper_core.specs.Weight.{stmts_weight}
use Rattle.viper_core.proofs.weights.+statements.Given as goal

abbrev pub invariant-after_stmts-loop-stmt : goal.invariant-after_stmts-loop-stmt
invariant-after_stmts-loop-stmt l =
    l.left - stmts_weight (program_of l.program) (stmts_of (drop l.stmt-index l.stmts)) ≡ l.fn.room - stmts_weight (program_of l.program) (stmts_of l.stmts)
