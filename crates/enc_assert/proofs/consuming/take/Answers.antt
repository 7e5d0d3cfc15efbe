use Rattle.std.proofs.Common.{◌∙◌, ap}
use Rattle.boogie_tree.specs.Whole.{expr_of}
use Rattle.boogie_tree.specs.Expr as t
use Rattle.boogie_tree.specs.Stmt as s
use Rattle.boogie_tree.specs.declared.exprs.BOp.TheVariants as op
use Rattle.enc_assert.proofs.consuming.take.Goals as goal

pub returns : goal.returns
returns c = λ i. s.Put c.args.held (c.in_ok-key.ensures i) ((c.in_ok-left.ensures ∙ ap (λ x. t.Bin op.Sub x (expr_of c.args.amount)) c.in_ok-before.ensures) i)
