use Rattle.std.proofs.Common.{◌∙◌, ap}
use Rattle.boogie_tree.specs.Whole.{expr_of}
use Rattle.boogie_tree.specs.Expr as t
use Rattle.boogie_tree.specs.Stmt as s
use Rattle.boogie_tree.specs.declared.exprs.BOp.TheVariants as op
use Rattle.enc_assert.proofs.forgetting.assume_kept.Goals as goal

pub returns : goal.returns
returns c =
    ap (λ x. s.Assume (t.Forall c.args.keys.items x)) (ap expr_of c.in_ok-boxed.ensures ∙ c.in_ok-kept.ensures ∙ (λ i. t.Bin op.Implies (c.in_ok-some.ensures i) (c.in_ok-same.ensures i)))
