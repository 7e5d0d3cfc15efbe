-- The literal 1 is positive.
use Rattle.std.proofs.Common.{◌∙◌, ap, sym}
use Rattle.std.proofs.lemmas.Result.{IfOk-weaker}
use Rattle.boogie_tree.specs.Whole.{expr_of}
use Rattle.enc_expr.specs.Pieces.{zero_real, is_one}
use Rattle.enc_expr.specs.View.{atom_of}
use Rattle.enc_expr.proofs.EmittedParts.{so_is, else_is}
use Rattle.boogie_tree.specs.Expr as t
use Rattle.boogie_tree.specs.declared.exprs.BOp.TheVariants as op
use Rattle.enc_assert.proofs.amounts.where_positive.Goals as goal

pub returns-then-is_one : goal.returns-then-is_one
returns-then-is_one c = sym (so_is (is_one (atom_of c.args.amount)) _ _ (sym c.is_one.ensures ∙ c.if-is_one.true))

pub returns : goal.returns
returns c =
    IfOk-weaker c.binary-2.result _ _ (λ x h. h ∙ ap (λ y. t.Bin op.Implies y (expr_of c.args.condition)) (c.in_ok-positive.ensures ∙ ap (λ y. t.Bin op.Gt y zero_real) c.expr.ensures)
    ∙ sym (else_is (is_one (atom_of c.args.amount)) _ _ (sym c.is_one.ensures ∙ c.if-is_one.false))) c.binary-2.ensures
