-- What is no news, and the sum.
use Rattle.std.proofs.lemmas.Result.{on_ok_weaker}
use Rattle.boogie_tree.specs.Whole.{stmts_of}
use Rattle.enc_expr.proofs.BlockLaws.{added, then_added}
use Rattle.enc_expr.proofs.fillings.add_to.Goals as goal

pub returns : goal.returns
returns c =
    on_ok_weaker c.add-2.result (λ h. then_added (stmts_of c.args.block.now.items) _ _ (added c.args.block.now.items _ c.in_ok-add.ensures c.in_ok-assume_amount.ensures)
    (added c.add.new.items.items _ h c.in_ok-put_more.ensures)) c.add-2.ensures
