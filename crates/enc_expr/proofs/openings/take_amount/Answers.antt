use Rattle.std.proofs.Common.{◌∙◌}
use Rattle.std.proofs.lemmas.Result.{on_ok_weaker}
use Rattle.boogie_tree.specs.Expr as t
use Rattle.boogie_tree.specs.Stmt as s
use Rattle.boogie_tree.specs.declared.exprs.BOp.TheVariants as op
use Rattle.enc_expr.proofs.BlockLaws.{added}
use Rattle.enc_expr.proofs.openings.take_amount.Goals as goal

pub returns : goal.returns
returns c =
    on_ok_weaker c.add.result (λ h. added c.args.block.now.items _ h (λ i. s.Put c.args.amounts (c.in_ok-exprs.ensures i) ((c.in_ok-left.ensures ∙ (λ j. t.Bin op.Sub (c.in_ok-held.ensures j) (c.expr.ensures j))) i))) c.add.ensures
