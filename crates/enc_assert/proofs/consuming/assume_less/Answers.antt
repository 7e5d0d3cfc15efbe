use Rattle.std.proofs.Common.{◌∙◌, ap}
use Rattle.boogie_tree.specs.Expr as t
use Rattle.boogie_tree.specs.Stmt as s
use Rattle.boogie_tree.specs.declared.exprs.BOp.TheVariants as op
use Rattle.enc_assert.proofs.consuming.assume_less.Goals as goal

pub returns : goal.returns
returns c = ap s.Assume (c.in_ok-less.ensures ∙ ap (λ x. t.Bin op.Lt (t.Var c.args.amount) x) c.in_ok-held.ensures)
