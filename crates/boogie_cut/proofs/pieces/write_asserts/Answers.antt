use Rattle.boogie_tree.specs.Whole.{stmts_of}
use Rattle.boogie_cut.specs.View.{number_by}
use Rattle.boogie_cut.proofs.WriteLaws.{asserts_next, asserts_end}
use Rattle.boogie_cut.proofs.pieces.write_asserts.Goals as goal

pub loop-clause-preserved : goal.loop-clause-preserved
loop-clause-preserved c =
    asserts_next (number_by c.args.names) c.args.clauses.now c.loop-clause.clause-index c.clause-item.result c.loop-clause-test.true c.clause-item.is c.loop-clause.out.items c.push.new.self.items c.in_ok-e.e _
    c.in_ok-push.ensures.items c.in_ok-e.ensures c.loop-clause.invariant

pub returns : goal.returns
returns c = asserts_end (number_by c.args.names) c.args.clauses.now c.loop-clause.clause-index (stmts_of c.loop-clause.out.items) _ c.loop-clause-test.false c.loop-clause.invariant
