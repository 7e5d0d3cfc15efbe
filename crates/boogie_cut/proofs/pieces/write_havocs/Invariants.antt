-- What is written so far, and then what is left.
use Rattle.std.proofs.Common.{◌≡◌, drop}
use Rattle.boogie_tree.specs.Whole.{stmts_of}
use Rattle.boogie_cut.specs.Cut.{join, havocs}
use Rattle.boogie_cut.proofs.pieces.write_havocs.Given as goal

abbrev pub invariant-loop-local : goal.invariant-loop-local
invariant-loop-local l = join (stmts_of l.out.items) (havocs (drop l.local-index l.locals)) ≡ join (stmts_of l.initial.out.items) (havocs l.locals)
