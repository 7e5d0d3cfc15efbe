use Rattle.std.proofs.Common.{◌∙◌, ap}
use Rattle.std.proofs.lemmas.Result.{on_ok_weaker}
use Rattle.boogie_tree.specs.Expr as t
use Rattle.boogie_tree.specs.Stmt as s
use Rattle.boogie_tree.specs.declared.exprs.BOp.TheVariants as op
use Rattle.enc_expr.proofs.BlockLaws.{added}
use Rattle.enc_expr.proofs.openings.check_held.Goals as goal

pub returns : goal.returns
returns c = on_ok_weaker c.add_assert.result (λ h. added c.args.block.now.items _ h (ap (s.Assert c.args.label) (c.in_ok-enough.ensures ∙ (λ i. t.Bin op.Ge (c.in_ok-held.ensures i) (c.expr.ensures i))))) c.add_assert.ensures
