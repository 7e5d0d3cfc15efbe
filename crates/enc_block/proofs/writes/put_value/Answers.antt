use Rattle.std.proofs.lemmas.Result.{on_ok_weaker}
use Rattle.boogie_tree.specs.Stmt as s
use Rattle.boogie_tree.specs.Whole.{expr_of}
use Rattle.enc_expr.proofs.BlockLaws.{added}
use Rattle.enc_block.proofs.writes.put_value.Goals as goal

pub returns : goal.returns
returns c =
    on_ok_weaker c.add.result (λ h. added c.args.block.now.items _ h (λ i. s.Put c.args.heap (c.in_ok-index.ensures i) (expr_of (c.into_inner.ensures i)))) c.add.ensures
