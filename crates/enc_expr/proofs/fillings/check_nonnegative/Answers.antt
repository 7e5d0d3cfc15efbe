-- The check is left out where a literal passes it.
use Rattle.std.proofs.Common.{◌∙◌, ap, sym}
use Rattle.std.proofs.lemmas.Result.{on_ok_weaker}
use Rattle.boogie_tree.specs.Expr as t
use Rattle.boogie_tree.specs.Stmt as s
use Rattle.boogie_tree.specs.Whole.{stmts_of}
use Rattle.boogie_tree.specs.declared.exprs.BOp.TheVariants as op
use Rattle.enc_expr.specs.Pieces.{one, is_amount_literal, zero_real}
use Rattle.enc_expr.specs.View.{atom_of}
use Rattle.enc_expr.proofs.BlockLaws.{added}
use Rattle.enc_expr.proofs.EmittedParts.{known_added, unknown_added}
use Rattle.enc_expr.proofs.fillings.check_nonnegative.Goals as goal

pub returns-then-is_amount : goal.returns-then-is_amount
returns-then-is_amount c = known_added (stmts_of c.args.block.now.items) _ (is_amount_literal (atom_of c.args.amount)) (sym c.is_amount.ensures ∙ c.if-is_amount.true)

pub returns : goal.returns
returns c =
    unknown_added c.add_assert.result (stmts_of c.args.block.now.items) _ (one (s.Assert c.args.label (t.Bin op.Ge (atom_of c.args.amount) zero_real))) (is_amount_literal (atom_of c.args.amount)) (sym c.is_amount.ensures ∙ c.if-is_amount.false)
    (on_ok_weaker c.add_assert.result (λ h. added c.args.block.now.items _ h (ap (s.Assert c.args.label) (c.in_ok-nonnegative.ensures ∙ ap (λ x. t.Bin op.Ge x zero_real) c.expr.ensures))) c.add_assert.ensures)
