use Rattle.std.proofs.Common.{◌∙◌, ap}
use Rattle.boogie_tree.specs.Whole.{expr_of}
use Rattle.boogie_tree.specs.Expr as t
use Rattle.boogie_tree.specs.Stmt as s
use Rattle.boogie_tree.specs.declared.exprs.BOp.TheVariants as op
use Rattle.enc_block.proofs.creations.avoid.Goals as goal

pub returns : goal.returns
returns c =
    (λ i. s.Assume (t.Forall (c.in_ok-keys.ensures.items i) ((ap expr_of c.in_ok-boxed.ensures ∙ c.in_ok-avoided.ensures ∙ (λ j. t.Bin op.Implies (c.in_ok-some.ensures j) (c.in_ok-other.ensures j))) i)))
