-- The content, and so much more.
use Rattle.std.proofs.Common.{◌∙◌, ap}
use Rattle.std.proofs.lemmas.Result.{on_ok_weaker}
use Rattle.boogie_tree.specs.Whole.{stmts_of}
use Rattle.enc_expr.specs.Code.{join}
use Rattle.enc_expr.specs.Encoding.{set_value}
use Rattle.enc_expr.specs.Pieces.{add_to, index, one_real, scaled}
use Rattle.enc_expr.specs.Place.{number}
use Rattle.enc_expr.specs.View.{atom_of}
use Rattle.enc_expr.proofs.BlockLaws.{then_added}
use Rattle.enc_fold.proofs.folding.fill_whole.Goals as goal

pub returns : goal.returns
returns c =
    let key = index c.args.args.now in
    let amounts = c.number-amounts.ensures ∙ ap (λ xs. number xs c.args.predicate) c.deref.ensures.value in
    let contents = c.number-contents.ensures ∙ ap (λ xs. number xs c.args.predicate) c.deref-2.ensures.value in
    on_ok_weaker c.add_to.result (λ h.
    then_added (stmts_of c.args.block.now.items) _ _ (c.in_ok-set_value.ensures ∙ (λ i. join (stmts_of c.args.block.now.items) (set_value (amounts i) (contents i) key c.args.content)))
    (h ∙ (λ i. join (stmts_of c.set_value.new.block.items) (add_to (amounts i) key (scaled one_real (atom_of c.args.amount)))))) c.add_to.ensures
