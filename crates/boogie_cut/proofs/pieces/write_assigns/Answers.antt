use Rattle.boogie_tree.specs.Whole.{stmts_of}
use Rattle.boogie_cut.proofs.WriteLaws.{assigns_next, assigns_end}
use Rattle.boogie_cut.proofs.pieces.write_assigns.Goals as goal

pub loop-argument-preserved : goal.loop-argument-preserved
loop-argument-preserved c =
    assigns_next c.loop-argument.local c.in_ok-local.local c.args.arguments.now c.loop-argument.argument-index c.argument-item.result c.in_ok-e.e c.loop-argument.out.items c.push.new.self.items _
    c.loop-argument-test.true c.argument-item.is c.in_ok-local.ensures c.in_ok-e.ensures c.in_ok-push.ensures.items c.loop-argument.invariant

pub returns : goal.returns
returns c = assigns_end c.loop-argument.local c.args.arguments.now c.loop-argument.argument-index (stmts_of c.loop-argument.out.items) _ c.loop-argument-test.false c.loop-argument.invariant
