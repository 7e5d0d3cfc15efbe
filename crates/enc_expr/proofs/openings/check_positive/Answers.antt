-- The check is left out where a literal passes it.
use Rattle.std.proofs.Common.{◌∙◌, ap, sym}
use Rattle.std.proofs.lemmas.Result.{on_ok_weaker}
use Rattle.boogie_tree.specs.Expr as t
use Rattle.boogie_tree.specs.Stmt as s
use Rattle.boogie_tree.specs.Whole.{stmts_of}
use Rattle.boogie_tree.specs.declared.exprs.BOp.TheVariants as op
use Rattle.enc_expr.specs.Pieces.{one, is_one, zero_real}
use Rattle.enc_expr.specs.View.{atom_of}
use Rattle.enc_expr.proofs.BlockLaws.{added}
use Rattle.enc_expr.proofs.EmittedParts.{known_added, unknown_added}
use Rattle.enc_expr.proofs.openings.check_positive.Goals as goal

pub returns-then-is_one : goal.returns-then-is_one
returns-then-is_one c = known_added (stmts_of c.args.block.now.items) _ (is_one (atom_of c.args.amount)) (sym c.is_one.ensures ∙ c.if-is_one.true)

pub returns : goal.returns
returns c =
    unknown_added c.add_assert.result (stmts_of c.args.block.now.items) _ (one (s.Assert c.args.label (t.Bin op.Gt (atom_of c.args.amount) zero_real))) (is_one (atom_of c.args.amount)) (sym c.is_one.ensures ∙ c.if-is_one.false)
    (on_ok_weaker c.add_assert.result (λ h. added c.args.block.now.items _ h (ap (s.Assert c.args.label) (c.in_ok-positive.ensures ∙ ap (λ x. t.Bin op.Gt x zero_real) c.expr.ensures))) c.add_assert.ensures)
