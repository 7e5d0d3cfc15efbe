-- One list after the other.
use Rattle.std.proofs.Common.{◌∙◌, ap}
use Rattle.boogie_tree.specs.Whole.{stmts_of}
use Rattle.enc_expr.specs.Code.{join}
use Rattle.enc_expr.specs.Encoding.{copies}
use Rattle.enc_expr.specs.Place.{maps_of}
use Rattle.enc_expr.proofs.BlockLaws.{then_added}
use Rattle.enc_fold.specs.Saved as code
use Rattle.enc_fold.proofs.saving.copy_held.Goals as goal

pub returns : goal.returns
returns c =
    let own = maps_of c.args.own.now in let from = maps_of c.args.from.now in
    then_added (stmts_of c.new-block.result.items) (copies own.mask from.mask 0) (copies own.amount from.amount 0)
    (c.in_ok-copies.ensures ∙ (λ i. join (stmts_of c.new-block.result.items) (copies (c.deref.ensures.value i) (c.deref-2.ensures.value i) 0)))
    (c.in_ok-copies-2.ensures ∙ (λ i. join (stmts_of c.copies.new.block.items) (copies (c.deref-3.ensures.value i) (c.deref-4.ensures.value i) 0)))
    ∙ ap (λ xs. join (stmts_of xs) (code.copy_held own from)) c.new-block.ensures.items
