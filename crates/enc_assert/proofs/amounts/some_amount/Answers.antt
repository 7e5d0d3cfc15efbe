use Rattle.std.proofs.Common.{refl, ap}
use Rattle.std.proofs.lemmas.Result.{on_ok_weaker}
use Rattle.boogie_tree.specs.Whole.{stmts_of}
use Rattle.enc_expr.proofs.BlockLaws.{added, then_added}
use Rattle.boogie_tree.specs.Stmt as s
use Rattle.enc_assert.proofs.amounts.some_amount.Goals as goal

pub returns : goal.returns
returns c =
    on_ok_weaker c.add-2.result (λ h. then_added (stmts_of c.args.block.now.items) _ _ (added c.args.block.now.items _ c.in_ok-add.ensures refl)
    (added c.add.new.items.items _ h (ap s.Assume c.in_ok-positive.ensures))) c.add-2.ensures
