-- The variables so far, and then those of the statements that are left.
use Rattle.std.proofs.Common.{◌≡◌, ◌++◌, drop}
use Rattle.boogie_tree.specs.Whole.{stmts_of}
use Rattle.boogie_formula.specs.Choices.{own_types}
use Rattle.boogie_wp.specs.View.{types_in, types_of_all}
use Rattle.boogie_wp.proofs.variables.+counting.Given as goal

abbrev pub invariant-add_block-loop-stmt : goal.invariant-add_block-loop-stmt
invariant-add_block-loop-stmt l =
    types_of_all l.vars.items ++ own_types (types_in l.locals) (stmts_of (drop l.stmt-index l.stmts))
    ≡ types_of_all l.initial.vars.items ++ own_types (types_in l.locals) (stmts_of l.stmts)
