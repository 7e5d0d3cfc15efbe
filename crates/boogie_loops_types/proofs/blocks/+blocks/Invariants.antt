-- The statements that are left tell it.
use Rattle.std.proofs.Common.{◌≡◌, drop, map}
use Rattle.boogie_types.specs.Typed.{types_in}
use Rattle.boogie_loops.specs.View.{wproc_of, wstmts_of}
use Rattle.boogie_loops.specs.WideTypes.{is_wide}
use Rattle.boogie_loops_types.proofs.blocks.+blocks.Given as goal

abbrev pub invariant-is_typed-loop-stmt : goal.invariant-is_typed-loop-stmt
invariant-is_typed-loop-stmt l = is_wide (map wproc_of l.procs.all.now) (types_in l.locals) l.params (wstmts_of l.stmts) ≡
    is_wide (map wproc_of l.procs.all.now) (types_in l.locals) l.params (wstmts_of (drop l.stmt-index l.stmts))
