use Rattle.std.proofs.Common.{◌∙◌}
use Rattle.boogie_eval.proofs.BorrowedLaws.{moved_on}
use Rattle.boogie_eval.proofs.eval_columns.copy_below.Goals as goal

pub loop-i-preserved : goal.loop-i-preserved
loop-i-preserved c =
    let x = c.index-keys-i-in-loop-i in
    moved_on c.loop-i.list.items c.push.new.self.items c.args.keys.now c.loop-i.i x.result c.in_ok-push.ensures.items c.loop-i-test.true x.is ∙ c.loop-i.invariant
