-- The test of what is held, and the value.
use Rattle.std.proofs.lemmas.Result.{on_ok_weaker}
use Rattle.boogie_tree.specs.Whole.{stmts_of}
use Rattle.enc_expr.proofs.BlockLaws.{added, then_added}
use Rattle.enc_expr.proofs.fillings.set_value.Goals as goal

pub returns : goal.returns
returns c =
    on_ok_weaker c.add-2.result (λ h. then_added (stmts_of c.args.block.now.items) _ _ (added c.args.block.now.items _ c.in_ok-add.ensures c.in_ok-assume_same.ensures)
    (added c.add.new.items.items _ h c.in_ok-put_value.ensures)) c.add-2.ensures
