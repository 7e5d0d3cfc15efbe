-- The check is left out where a literal passes it.
use Rattle.std.proofs.Common.{◌∙◌, pos, ap, sym}
use Rattle.std.proofs.lemmas.Result.{on_ok_weaker}
use Rattle.boogie_tree.specs.Expr as t
use Rattle.boogie_tree.specs.Stmt as s
use Rattle.boogie_tree.specs.Whole.{stmts_of}
use Rattle.boogie_tree.specs.declared.exprs.BOp.TheVariants as op
use Rattle.enc_expr.specs.Pieces.{one, is_divisor_literal}
use Rattle.enc_expr.specs.View.{atom_of}
use Rattle.enc_expr.proofs.BlockLaws.{added}
use Rattle.enc_expr.proofs.EmittedParts.{known_added, unknown_added}
use Rattle.enc_expr.proofs.operators.check_divisor.Goals as goal

pub returns-then-is_divisor : goal.returns-then-is_divisor
returns-then-is_divisor c = known_added (stmts_of c.args.block.now.items) _ (is_divisor_literal (atom_of c.args.divisor)) (sym c.is_divisor.ensures ∙ c.if-is_divisor.true)

pub returns : goal.returns
returns c =
    unknown_added c.add_assert.result (stmts_of c.args.block.now.items) _ (one (s.Assert c.args.label (t.Bin op.Ne (atom_of c.args.divisor) (t.Int (pos 0))))) (is_divisor_literal (atom_of c.args.divisor)) (sym c.is_divisor.ensures ∙ c.if-is_divisor.false)
    (on_ok_weaker c.add_assert.result (λ h. added c.args.block.now.items _ h (ap (s.Assert c.args.label) (c.in_ok-divides.ensures ∙ ap (λ x. t.Bin op.Ne x (t.Int (pos 0))) c.expr.ensures))) c.add_assert.ensures)
