-- Three statements.
use Rattle.std.proofs.Common.{◌∙◌, refl, ap}
use Rattle.std.proofs.lemmas.Result.{on_ok_weaker}
use Rattle.boogie_tree.specs.Expr as t
use Rattle.boogie_tree.specs.Stmt as s
use Rattle.boogie_tree.specs.Whole.{stmts_of}
use Rattle.boogie_tree.specs.declared.exprs.BOp.TheVariants as op
use Rattle.enc_expr.proofs.BlockLaws.{added, then_added}
use Rattle.enc_expr.proofs.fillings.take_value.Goals as goal

pub returns : goal.returns
returns c =
    on_ok_weaker c.add-3.result (λ h. then_added (stmts_of c.args.block.now.items) _ _
    (added c.args.block.now.items _ c.in_ok-add.ensures (ap s.Assume (c.in_ok-is_some.ensures ∙ ap (λ x. t.Bin op.Ne x t.Null) c.expr.ensures)))
    (then_added (stmts_of c.add.new.items.items) _ _ (added c.add.new.items.items _ c.in_ok-add-2.ensures refl)
    (added c.add-2.new.items.items _ h (c.in_ok-assume_content.ensures ∙ ap (λ x. s.Assume (t.Bin op.Eq (t.Var c.args.content) x)) c.in_ok-value.ensures)))) c.add-3.ensures
