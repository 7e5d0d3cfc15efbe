-- What is written so far, and then what is left.
use Rattle.std.proofs.Common.{◌≡◌, drop}
use Rattle.boogie_tree.specs.Whole.{exprs_of, stmts_of}
use Rattle.boogie_cut.specs.Cut.{join, assigns}
use Rattle.boogie_cut.proofs.pieces.write_assigns.Given as goal

abbrev pub invariant-loop-argument : goal.invariant-loop-argument
invariant-loop-argument l =
    join (stmts_of l.out.items) (assigns l.local (exprs_of (drop l.argument-index l.arguments))) ≡ join (stmts_of l.initial.out.items) (assigns l.n (exprs_of l.arguments))
