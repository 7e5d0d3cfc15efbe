-- One list after the other.
use Rattle.std.proofs.Common.{◌∙◌, ap}
use Rattle.boogie_tree.specs.Whole.{stmts_of}
use Rattle.enc_expr.specs.Code.{join}
use Rattle.enc_expr.specs.Encoding.{copies}
use Rattle.enc_expr.proofs.EmittedParts.{four_added}
use Rattle.enc_expr.proofs.openings.copy_state.Goals as goal

pub returns : goal.returns
returns c =
    four_added _ _ _ _ (stmts_of c.new-block.result.items) (stmts_of c.copies.new.block.items) (stmts_of c.copies-2.new.block.items) (stmts_of c.copies-3.new.block.items) (ap stmts_of c.new-block.ensures.items)
    (c.in_ok-copies.ensures ∙ (λ i. join (stmts_of c.new-block.result.items) (copies (c.deref.ensures.value i) (c.deref-2.ensures.value i) 0)))
    (c.in_ok-copies-2.ensures ∙ (λ i. join (stmts_of c.copies.new.block.items) (copies (c.deref-3.ensures.value i) (c.deref-4.ensures.value i) 0)))
    (c.in_ok-copies-3.ensures ∙ (λ i. join (stmts_of c.copies-2.new.block.items) (copies (c.deref-5.ensures.value i) (c.deref-6.ensures.value i) 0)))
    (c.in_ok-copies-4.ensures ∙ (λ i. join (stmts_of c.copies-3.new.block.items) (copies (c.deref-7.ensures.value i) (c.deref-8.ensures.value i) 0)))
