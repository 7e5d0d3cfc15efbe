use Rattle.std.proofs.Common.{◌∙◌}
use Rattle.std.proofs.lemmas.Result.{on_ok_weaker}
use Rattle.boogie_tree.specs.Whole.{stmts_of}
use Rattle.enc_expr.specs.Code.{join}
use Rattle.enc_expr.specs.Pieces.{one, zero_real}
use Rattle.enc_expr.proofs.BlockLaws.{added, then_added}
use Rattle.boogie_tree.specs.Expr as t
use Rattle.boogie_tree.specs.Stmt as s
use Rattle.boogie_tree.specs.declared.exprs.BOp.TheVariants as op
use Rattle.enc_assert.proofs.consuming.take_chosen.Goals as goal

pub returns : goal.returns
returns c =
    let held = c.held_in-held.ensures in
    let key = c.index-index.ensures in
    on_ok_weaker c.add-2.result (λ h. then_added (stmts_of c.args.block.now.items) _ _
    (c.in_ok-assert_amount.ensures ∙ (λ i. join (stmts_of c.args.block.now.items) (one (s.Assert (c.label-label.ensures i) (t.Bin op.Ne (t.At (held i) (key i)) zero_real)))))
    (then_added (stmts_of c.assert_amount.new.block.items) _ _ c.in_ok-some_amount.ensures
    (then_added (stmts_of c.some_amount.new.block.items) _ _
    (added c.some_amount.new.block.items _ c.in_ok-add.ensures (c.in_ok-assume_less.ensures ∙ (λ i. s.Assume (t.Bin op.Lt (t.Var c.args.amount) (t.At (held i) (key i))))))
    (added c.add.new.items.items _ h (c.in_ok-take.ensures ∙ (λ i. s.Put (held i) (key i) (t.Bin op.Sub (t.At (held i) (key i)) (t.Var c.args.amount)))))))) c.add-2.ensures
