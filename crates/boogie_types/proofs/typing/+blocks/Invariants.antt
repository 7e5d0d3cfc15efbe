-- The statements so far are well-typed.
use Rattle.std.proofs.Common.{◌≡◌, drop}
use Rattle.boogie_tree.specs.Whole.{stmts_of}
use Rattle.boogie_meaning.specs.Types.{is_typed}
use Rattle.boogie_types.specs.Typed.{types_in}
use Rattle.boogie_types.proofs.typing.+blocks.Given as goal

abbrev pub invariant-is_typed-loop-stmt : goal.invariant-is_typed-loop-stmt
invariant-is_typed-loop-stmt l = is_typed (types_in l.locals) (stmts_of l.stmts) ≡ is_typed (types_in l.locals) (stmts_of (drop l.stmt-index l.stmts))
