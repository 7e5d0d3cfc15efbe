use Rattle.std.proofs.Common.{◌∙◌, ap}
use Rattle.enc_expr.specs.Pieces.{one_real}
use Rattle.enc_expr.specs.View.{atom_of}
use Rattle.enc_assert.specs.Encoding.{where_positive}
use Rattle.boogie_tree.specs.Expr as t
use Rattle.boogie_tree.specs.Stmt as s
use Rattle.boogie_tree.specs.declared.exprs.BOp.TheVariants as op
use Rattle.enc_assert.proofs.producing.assume_limit.Goals as goal

pub returns : goal.returns
returns c =
    ap s.Assume (c.in_ok-where_positive.ensures ∙ ap (where_positive (atom_of c.args.amount)) (c.in_ok-limit.ensures ∙ ap (λ x. t.Bin op.Le x one_real) c.in_ok-held.ensures))
