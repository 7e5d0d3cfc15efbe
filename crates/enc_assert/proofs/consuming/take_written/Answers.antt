use Rattle.std.proofs.Common.{◌∙◌, ap}
use Rattle.std.proofs.lemmas.Result.{on_ok_weaker}
use Rattle.boogie_tree.specs.Whole.{stmts_of}
use Rattle.enc_expr.specs.Code.{join}
use Rattle.enc_expr.specs.Encoding.{held_check, taken_amount}
use Rattle.enc_expr.specs.Pieces.{check_nonnegative, scaled}
use Rattle.enc_expr.specs.View.{atom_of}
use Rattle.enc_expr.proofs.BlockLaws.{then_added}
use Rattle.enc_assert.proofs.consuming.take_written.Goals as goal

pub returns : goal.returns
returns c =
    let amount = atom_of c.args.amount in
    let needed = scaled (atom_of c.args.taking.scale) amount in
    let held = c.held_in-held.ensures in
    let key = c.index-index.ensures in
    on_ok_weaker c.take_held.result (λ h. then_added (stmts_of c.args.block.now.items) _ _
    (c.in_ok-check_nonnegative.ensures ∙ ap (λ l. join (stmts_of c.args.block.now.items) (check_nonnegative l amount)) c.label-label.ensures)
    (h ∙ (λ i. join (stmts_of c.check_nonnegative.new.block.items) (join (held_check (c.label-label-2.ensures i) (held i) (key i) needed) (taken_amount (held i) (key i) needed))))) c.take_held.ensures
