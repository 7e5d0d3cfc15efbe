use Rattle.std.proofs.Common.{◌∙◌, ap}
use Rattle.std.proofs.lemmas.Result.{on_ok_weaker}
use Rattle.boogie_tree.specs.Whole.{stmts_of}
use Rattle.enc_expr.specs.Code.{join}
use Rattle.enc_expr.specs.Pieces.{check_nonnegative}
use Rattle.enc_expr.specs.View.{atom_of}
use Rattle.enc_expr.proofs.BlockLaws.{then_added}
use Rattle.enc_assert.proofs.producing.give_written.Goals as goal

pub returns : goal.returns
returns c =
    on_ok_weaker c.hold_more.result (λ h. then_added (stmts_of c.args.block.now.items) _ _
    (c.in_ok-check_nonnegative.ensures ∙ ap (λ l. join (stmts_of c.args.block.now.items) (check_nonnegative l (atom_of c.args.amount))) c.label-label.ensures) h) c.hold_more.ensures
