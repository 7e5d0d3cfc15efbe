-- What is left of the block comes to all.
use Rattle.std.proofs.Common.{◌+◌, ◌++◌, drop, length, map}
use Rattle.boogie_tree.specs.Whole.{stmts_of}
use Rattle.boogie_loops.specs.View.{wproc_of, wstmts_of}
use Rattle.boogie_cut.specs.Cut.{cut, join}
use Rattle.boogie_cut.specs.View.{types_in, types_of_all}
use Rattle.boogie_cut.proofs.WriteLaws.{Left}
use Rattle.boogie_cut.proofs.statements.+cutting.Given as goal

abbrev pub invariant-cut_block-loop-stmt : goal.invariant-cut_block-loop-stmt
invariant-cut_block-loop-stmt l =
    let ps = map wproc_of l.frame.procs.now.all.now in
    let ls = types_in l.frame.own.now in
    let a = cut ps ls (wstmts_of l.stmts) (length ls + length (types_of_all l.initial.types.items)) in
    Left ps ls (wstmts_of (drop l.stmt-index l.stmts)) (types_of_all l.types.items) (stmts_of l.out.items) (types_of_all l.initial.types.items ++ a.locals) (join (stmts_of l.initial.out.items) a.stmts)
