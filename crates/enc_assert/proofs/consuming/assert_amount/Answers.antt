use Rattle.std.proofs.Common.{◌∙◌, ap}
use Rattle.std.proofs.lemmas.Result.{on_ok_weaker}
use Rattle.boogie_tree.specs.Whole.{expr_of}
use Rattle.boogie_tree.specs.Expr as t
use Rattle.boogie_tree.specs.Stmt as s
use Rattle.enc_expr.proofs.BlockLaws.{added}
use Rattle.enc_assert.proofs.consuming.assert_amount.Goals as goal

pub returns : goal.returns
returns c =
    on_ok_weaker c.add_assert.result (λ h. added c.args.block.now.items _ h (ap (s.Assert c.args.label) (c.in_ok-holds.ensures ∙ ap (λ x. t.Bin c.args.op x (expr_of c.args.amount)) c.in_ok-held.ensures))) c.add_assert.ensures
