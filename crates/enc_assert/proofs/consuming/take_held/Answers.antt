use Rattle.std.proofs.Common.{◌∙◌, ap}
use Rattle.std.proofs.lemmas.Result.{on_ok_weaker}
use Rattle.boogie_tree.specs.Whole.{stmts_of}
use Rattle.enc_expr.specs.Code.{join}
use Rattle.enc_expr.specs.Pieces.{one}
use Rattle.enc_expr.specs.View.{index_in}
use Rattle.enc_expr.proofs.BlockLaws.{added, then_added}
use Rattle.boogie_tree.specs.Expr as t
use Rattle.boogie_tree.specs.Stmt as s
use Rattle.boogie_tree.specs.declared.exprs.BOp.TheVariants as op
use Rattle.enc_assert.proofs.consuming.take_held.Goals as goal

pub returns : goal.returns
returns c =
    let key = index_in c.args.index in
    on_ok_weaker c.add.result (λ h. then_added (stmts_of c.args.block.now.items) _ _
    (c.in_ok-assert_amount.ensures ∙ ap (λ x. join (stmts_of c.args.block.now.items) (one (s.Assert c.args.label (t.Bin op.Ge (t.At c.args.held key) x)))) c.in_ok-needed.ensures)
    (added c.assert_amount.new.block.items _ h (c.in_ok-take.ensures ∙ ap (λ x. s.Put c.args.held key (t.Bin op.Sub (t.At c.args.held key) x)) c.in_ok-taken.ensures))) c.add.ensures
