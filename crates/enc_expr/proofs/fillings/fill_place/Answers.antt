-- The value, what is held, the amount, and the limit.
use Rattle.std.proofs.Common.{◌∙◌, ap}
use Rattle.boogie_tree.specs.Expr as t
use Rattle.boogie_tree.specs.Stmt as s
use Rattle.boogie_tree.specs.Whole.{stmts_of}
use Rattle.boogie_tree.specs.declared.exprs.BOp.TheVariants as op
use Rattle.enc_expr.specs.Code.{join}
use Rattle.enc_expr.specs.Encoding.{take_value, set_value}
use Rattle.enc_expr.specs.Pieces.{add_to, one_real, scaled}
use Rattle.enc_expr.specs.Place.{number}
use Rattle.enc_expr.specs.View.{atom_of}
use Rattle.enc_expr.proofs.BlockLaws.{added}
use Rattle.enc_expr.proofs.EmittedParts.{four_added}
use Rattle.enc_expr.proofs.fillings.fill_place.Goals as goal

pub returns : goal.returns
returns c =
    let heap = c.number-heap.ensures ∙ ap (λ xs. number xs c.args.filled.field) c.deref.ensures.value in
    let mask = c.number-mask.ensures ∙ ap (λ xs. number xs c.args.filled.field) c.deref-2.ensures.value in
    let key = t.more (atom_of c.args.filled.receiver) t.none in
    four_added _ _ _ _ (stmts_of c.new-fill.result.items) (stmts_of c.take_value.new.block.items) (stmts_of c.set_value.new.block.items) (stmts_of c.add_to.new.block.items) (ap stmts_of c.new-fill.ensures.items)
    (c.in_ok-take_value.ensures ∙ ap (λ u. join (stmts_of c.new-fill.result.items) (take_value u (atom_of c.args.filled.receiver) c.args.filled.value c.args.source.content)) c.field-ty.ensures)
    (c.in_ok-set_value.ensures ∙ (λ i. join (stmts_of c.take_value.new.block.items) (set_value (mask i) (heap i) key c.args.filled.value)))
    (c.in_ok-add_to.ensures ∙ ap (λ m. join (stmts_of c.set_value.new.block.items) (add_to m key (scaled (atom_of c.args.source.scale) (atom_of c.args.filled.amount)))) mask)
    (added c.add_to.new.block.items _ c.in_ok-add.ensures (c.in_ok-assume_amount.ensures ∙ ap (λ m. s.Assume (t.Bin op.Le (t.At m key) one_real)) mask))
