-- The check, and then the one block or the other.
use Rattle.std.proofs.Common.{◌∙◌, ap}
use Rattle.std.proofs.lemmas.Result.{on_ok_weaker}
use Rattle.boogie_tree.specs.Whole.{stmts_of}
use Rattle.enc_expr.specs.Code.{join}
use Rattle.enc_expr.specs.Pieces.{one, if_positive}
use Rattle.enc_expr.specs.View.{atom_of}
use Rattle.enc_expr.proofs.BlockLaws.{then_added}
use Rattle.enc_expr.proofs.fillings.fill_by.Goals as goal

pub returns : goal.returns
returns c =
    on_ok_weaker c.if_positive.result (λ h. then_added (stmts_of c.args.block.now.items) _ _ c.in_ok-check_nonnegative.ensures
    (h ∙ ap (λ ys. join (stmts_of c.check_nonnegative.new.block.items) (if_positive (atom_of c.args.amount) (stmts_of c.args.fill.items) ys)) (ap stmts_of c.in_ok-nothing.ensures.items ∙ ap one c.in_ok-assume_unit.ensures)))
    c.if_positive.ensures
