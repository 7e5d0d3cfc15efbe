-- The tests, the copies, the amount, and the content.
use Rattle.std.proofs.Common.{◌∙◌, refl, ap}
use Rattle.std.proofs.lemmas.Result.{on_ok_weaker}
use Rattle.boogie_tree.specs.Expr as t
use Rattle.boogie_tree.specs.Stmt as s
use Rattle.boogie_tree.specs.Whole.{stmts_of}
use Rattle.enc_expr.specs.Code.{join}
use Rattle.enc_expr.specs.Encoding.{held_check, taken_amount}
use Rattle.enc_expr.specs.Pieces.{check_positive, index}
use Rattle.enc_expr.specs.Place.{number}
use Rattle.enc_expr.specs.View.{atom_of}
use Rattle.enc_expr.proofs.BlockLaws.{added, all_added, then_added}
use Rattle.enc_expr.proofs.openings.taking.Goals as goal

pub returns : goal.returns
returns c =
    let key = index c.args.part.args.now in
    let at_amount = atom_of c.args.part.amount in
    let held = c.number-held.ensures ∙ ap (λ xs. number xs c.args.part.predicate) c.deref.ensures.value in
    let amounts = c.number-amounts.ensures ∙ ap (λ xs. number xs c.args.part.predicate) c.deref-2.ensures.value in
    let contents = c.number.ensures ∙ ap (λ xs. number xs c.args.part.predicate) c.deref-3.ensures.value in
    on_ok_weaker c.add.result (λ h.
    then_added (stmts_of c.args.block.now.items) _ _ (c.in_ok-check_positive.ensures ∙ ap (λ l. join (stmts_of c.args.block.now.items) (check_positive l at_amount)) c.label-label.ensures)
    (then_added (stmts_of c.check_positive.new.block.items) _ _ (c.in_ok-check_held.ensures ∙ (λ i. join (stmts_of c.check_positive.new.block.items) (held_check (c.label-label-2.ensures i) (held i) key at_amount)))
    (then_added (stmts_of c.check_held.new.block.items) (stmts_of c.args.sets.items) _ (all_added c.check_held.new.block.items c.args.sets.items c.in_ok-add_all.ensures refl)
    (then_added (stmts_of c.add_all.new.items.items) _ _ (c.in_ok-take_amount.ensures ∙ ap (λ m. join (stmts_of c.add_all.new.items.items) (taken_amount m key at_amount)) amounts)
    (added c.take_amount.new.block.items _ h (ap (s.Assign c.args.content) (c.in_ok-taken.ensures ∙ ap (λ m. t.At m key) contents))))))) c.add.ensures
