use Rattle.std.proofs.Common.{◌∙◌, List, ◌++◌, ap, sym, append-nil}
use Rattle.std.proofs.lemmas.Result.{IfOk-weaker}
use Rattle.lemmas.proofs.Lists.{next_item}
use Rattle.boogie_tree.specs.Expr as t
use Rattle.boogie_tree.specs.Whole.{expr_of, exprs_of}
use Rattle.boogie_tree.specs.declared.exprs.BExpr.{BExpr}
use Rattle.boogie_tree.proofs.WholeLaws.{expr_of-At}
use Rattle.enc_expr.proofs.CopyingLaws.{one_more_copied}
use Rattle.enc_expr.proofs.EmittedParts.{dropped_all}
use Rattle.enc_expr.proofs.copying.+copying.Goals as goal

pub copied-returns-in_ok-all_copied-in-At : goal.copied-returns-in_ok-all_copied-in-At
copied-returns-in_ok-all_copied-in-At _ c =
    IfOk-weaker c.boxed-in-At.result _ _ (λ x same. ap expr_of same ∙ expr_of-At c.in-At.map c.in_ok-all_copied-in-At.field-0
    ∙ ap (t.At c.in-At.map) (c.in_ok-all_copied-in-At.ensures ∙ ap exprs_of c.deref-in-At.ensures.value) ∙ sym (ap expr_of c.in-At.is ∙ expr_of-At c.in-At.map c.in-At.index)) c.boxed-in-At.ensures

pub all_copied-loop-e-preserved : goal.all_copied-loop-e-preserved
all_copied-loop-e-preserved _ c =
    one_more_copied c.loop-e.copies.items c.add.new.items.items c.args.es.now c.loop-e.e-index c.e-item.result c.into_inner.result c.in_ok-add.ensures (ap expr_of c.into_inner.ensures ∙ c.in_ok-copied.ensures)
    (next_item c.args.es.now c.loop-e.e-index c.e-item.result c.loop-e-test.true c.e-item.is) c.loop-e.invariant

pub all_copied-returns : goal.all_copied-returns
all_copied-returns _ c =
    sym (ap exprs_of (append-nil c.loop-e.copies.items)) ∙ ap (λ (zs : List BExpr). exprs_of (c.loop-e.copies.items ++ zs)) (sym (dropped_all c.loop-e.e-index c.args.es.now c.loop-e-test.false)) ∙ c.loop-e.invariant
