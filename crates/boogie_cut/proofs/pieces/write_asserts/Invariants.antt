-- What is written so far, and then what is left.
use Rattle.std.proofs.Common.{◌≡◌, drop}
use Rattle.boogie_tree.specs.Whole.{stmts_of}
use Rattle.boogie_cut.specs.Cut.{join, asserts, renamed_clauses}
use Rattle.boogie_cut.specs.View.{clauses_of, number_by}
use Rattle.boogie_cut.proofs.pieces.write_asserts.Given as goal

abbrev pub invariant-loop-clause : goal.invariant-loop-clause
invariant-loop-clause l =
    join (stmts_of l.out.items) (asserts (renamed_clauses (number_by l.names) (clauses_of (drop l.clause-index l.clauses))))
    ≡ join (stmts_of l.initial.out.items) (asserts (renamed_clauses (number_by l.names) (clauses_of l.clauses)))
