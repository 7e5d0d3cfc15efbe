-- The arms that are left hold the statement so far.
use Rattle.std.proofs.Common.{◌≡◌, Some}
use Rattle.std.specs.Vec.{vec_len}
use Rattle.viper_core.specs.View.{stmt_of}
use Rattle.viper_types.specs.Answers.{block_stmts_of, branches_of}
use Rattle.viper_types.specs.Stepping.{nested}
use Rattle.viper_types.proofs.Nesting.{nested_onto}
use Rattle.viper_types.proofs.statements.nested.Given as goal

abbrev pub invariant-loop-branch : goal.invariant-loop-branch
invariant-loop-branch l = nested (branches_of l.fn.branches) (block_stmts_of l.fn.other) ≡ Some (nested_onto (branches_of l.branches) (stmt_of l.stmt))

abbrev pub decreases-loop-branch : goal.decreases-loop-branch
decreases-loop-branch l = vec_len l.branches
