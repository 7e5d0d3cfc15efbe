-- Null is tested first, and then the mask.
use Rattle.std.proofs.Common.{◌∙◌, ap}
use Rattle.std.proofs.lemmas.Result.{on_ok_weaker}
use Rattle.boogie_tree.specs.Expr as t
use Rattle.boogie_tree.specs.Stmt as s
use Rattle.boogie_tree.specs.Whole.{stmts_of}
use Rattle.boogie_tree.specs.declared.exprs.BOp.TheVariants as op
use Rattle.enc_expr.specs.Pieces.{zero_real}
use Rattle.enc_expr.specs.Place.{number}
use Rattle.enc_expr.specs.View.{atom_of}
use Rattle.enc_expr.proofs.BlockLaws.{added, then_added}
use Rattle.enc_expr.proofs.codes.read_checks.Goals as goal

pub returns : goal.returns
returns c =
    on_ok_weaker c.add_assert-2.result (λ h. then_added (stmts_of c.args.block.now.items) _ _
    (added c.args.block.now.items _ c.in_ok-add_assert.ensures (λ i. s.Assert (c.label.ensures i) ((c.in_ok-is_some.ensures ∙ ap (λ x. t.Bin op.Ne x t.Null) c.expr.ensures) i)))
    (added c.add_assert.new.block.items _ h (λ i. s.Assert (c.label-2.ensures i) ((c.in_ok-readable.ensures ∙ ap (λ x. t.Bin op.Ne x zero_real) (c.in_ok-held.ensures
    ∙ ap (λ m. t.At m (t.more (atom_of c.args.receiver) t.none)) (c.number-mask.ensures ∙ ap (λ xs. number xs c.args.field) c.deref.ensures.value))) i)))) c.add_assert-2.ensures
