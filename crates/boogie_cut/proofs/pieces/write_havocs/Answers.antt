use Rattle.boogie_tree.specs.Whole.{stmts_of}
use Rattle.boogie_cut.proofs.WriteLaws.{havocs_next, havocs_end}
use Rattle.boogie_cut.proofs.pieces.write_havocs.Goals as goal

pub loop-local-preserved : goal.loop-local-preserved
loop-local-preserved c =
    havocs_next c.args.locals.now c.loop-local.local-index c.loop-local.out.items c.push.new.self.items _ c.loop-local-test.true c.in_ok-push.ensures.items c.loop-local.invariant

pub returns : goal.returns
returns c = havocs_end c.args.locals.now c.loop-local.local-index (stmts_of c.loop-local.out.items) _ c.loop-local-test.false c.loop-local.invariant
