use Rattle.std.proofs.Common.{◌≡◌, ◌++◌, ◌∙◌, sym, ap, codes, []}
use Rattle.std.proofs.lemmas.Result.{on_ok_weaker}
use Rattle.std.specs.declared.alloc.Global.{Global}
use Rattle.std.specs.declared.vec.Vec.{Vec}
use Rattle.boogie_tree.specs.Whole.{expr_of, exprs_of}
use Rattle.boogie_tree.specs.declared.exprs.BExpr as e
use Rattle.boogie_tree.proofs.WholeLaws.{expr_of-At}
use Rattle.boogie_grammar.specs.Naming.{naming_of}
use Rattle.boogie_grammar.specs.Printed as text
use Rattle.boogie_grammar.specs.Printed.{expr_text, exprs_text, name_at, operator_text}
use Rattle.boogie_print.proofs.PutLaws.{row_steps, two_steps, three_steps, same_end, same_inside, forall_steps, one_more_put, all_put}
use Rattle.boogie_print.proofs.put_exprs.+expressions.Goals as goal

at_text : (x : text.Naming) (whole : e.BExpr) (i : _) (v : Vec e.BExpr Global) → whole ≡ e.At i v →
    expr_text x (expr_of whole) ≡ name_at x.locals i ++ codes "[" ++ exprs_text x [] (exprs_of v.items) ++ codes "]"
at_text x whole i v h = ap (λ y. expr_text x (expr_of y)) h ∙ ap (expr_text x) (expr_of-At i v)

pub put_expr-returns-in_ok-put_exprs-in-At : goal.put_expr-returns-in_ok-put_exprs-in-At
put_expr-returns-in_ok-put_exprs-in-At t c =
    on_ok_weaker c.put_byte-in-At.result (λ h. row_steps c.args.out.now.items (name_at (naming_of c.args.names.now).locals c.in-At.i) (codes "[") (exprs_text (naming_of c.args.names.now) [] (exprs_of c.in-At.indices.items)) (codes "]")
    c.in_ok-put_map-in-At.ensures (c.in_ok-put_exprs-in-At.ensures ∙ ap (λ y. c.put_map.new.out.items ++ exprs_text (naming_of c.args.names.now) [] (exprs_of y)) c.deref-in-At.ensures.value) h
    ∙ ap (λ y. c.args.out.now.items ++ y) (sym (at_text (naming_of c.args.names.now) c.args.expr.now c.in-At.i c.in-At.indices c.in-At.is))) c.put_byte-in-At.ensures

pub put_expr-returns-in_ok-put_byte-in-Bin-2 : goal.put_expr-returns-in_ok-put_byte-in-Bin-2
put_expr-returns-in_ok-put_byte-in-Bin-2 t c =
    rw c.in-Bin.is (on_ok_weaker c.put_closed.result (λ h. three_steps c.args.out.now.items (codes "(") (expr_text (naming_of c.args.names.now) (expr_of c.in-Bin.a.value)) (codes " ") (operator_text c.in-Bin.op) (codes " ") (expr_text (naming_of c.args.names.now) (expr_of c.in-Bin.b.value)) (codes ")")
    (same_end (naming_of c.args.names.now) c.put_byte.new.out.items c.in-Bin.a.value c.deref-in-Bin.ensures c.in_ok-put_expr-in-Bin.ensures ∙ ap (λ m. m ++ expr_text (naming_of c.args.names.now) (expr_of c.in-Bin.a.value)) c.in_ok-put_byte-in-Bin.ensures) c.in_ok-put_operator-in-Bin.ensures
    (same_inside (naming_of c.args.names.now) c.put_byte-in-Bin.new.out.items (codes ")") c.in-Bin.b.value c.deref-in-Bin-2.ensures h ∙ ap (λ m. m ++ expr_text (naming_of c.args.names.now) (expr_of c.in-Bin.b.value) ++ codes ")") c.in_ok-put_byte-in-Bin-2.ensures)) c.put_closed.ensures)

pub put_expr-returns-in_ok-put_after-in-If-2 : goal.put_expr-returns-in_ok-put_after-in-If-2
put_expr-returns-in_ok-put_after-in-If-2 t c =
    rw c.in-If.is (on_ok_weaker c.put_wrapped-in-If.result (λ h. three_steps c.args.out.now.items (codes "(if ") (expr_text (naming_of c.args.names.now) (expr_of c.in-If.a.value)) (codes " then ") (expr_text (naming_of c.args.names.now) (expr_of c.in-If.b.value)) (codes " else ") (expr_text (naming_of c.args.names.now) (expr_of c.in-If.c.value)) (codes ")")
    (same_end (naming_of c.args.names.now) (c.args.out.now.items ++ codes "(if ") c.in-If.a.value c.deref-in-If.ensures c.in_ok-put_after-in-If.ensures)
    (same_end (naming_of c.args.names.now) (c.put_after.new.out.items ++ codes " then ") c.in-If.b.value c.deref-in-If-2.ensures c.in_ok-put_after-in-If-2.ensures)
    (same_inside (naming_of c.args.names.now) (c.put_after-in-If.new.out.items ++ codes " else ") (codes ")") c.in-If.c.value c.deref-in-If-3.ensures h)) c.put_wrapped-in-If.ensures)

pub put_expr-returns-in_ok-put_after-in-Pair : goal.put_expr-returns-in_ok-put_after-in-Pair
put_expr-returns-in_ok-put_after-in-Pair t c =
    rw c.in-Pair.is (on_ok_weaker c.put_wrapped-in-Pair.result (λ h. two_steps c.args.out.now.items (codes "sPair(") (expr_text (naming_of c.args.names.now) (expr_of c.in-Pair.a.value)) (codes ", ") (expr_text (naming_of c.args.names.now) (expr_of c.in-Pair.b.value)) (codes ")")
    (same_end (naming_of c.args.names.now) (c.args.out.now.items ++ codes "sPair(") c.in-Pair.a.value c.deref-in-Pair.ensures c.in_ok-put_after-in-Pair.ensures)
    (same_inside (naming_of c.args.names.now) (c.put_after-in-Pair.new.out.items ++ codes ", ") (codes ")") c.in-Pair.b.value c.deref-in-Pair-2.ensures h)) c.put_wrapped-in-Pair.ensures)

pub put_exprs-loop-expr-preserved : goal.put_exprs-loop-expr-preserved
put_exprs-loop-expr-preserved t c =
    one_more_put (naming_of c.args.names.now) c.args.exprs.now c.loop-expr.expr-index c.expr-item.result c.loop-expr.out.items c.loop-expr.before.now c.loop-expr-test.true c.expr-item.is c.in_ok-put_after.ensures ∙ c.loop-expr.invariant

pub put_exprs-returns : goal.put_exprs-returns
put_exprs-returns t c =
    all_put (naming_of c.args.names.now) c.args.exprs.now c.loop-expr.expr-index c.loop-expr.out.items c.loop-expr.before.now c.loop-expr-test.false c.loop-expr.invariant

pub put_forall-returns : goal.put_forall-returns
put_forall-returns t c =
    on_ok_weaker c.put_byte.result (λ h. forall_steps (naming_of c.args.names.now) c.args.types.now (expr_of c.args.body.now) c.args.out.now.items (codes "(forall ") (codes " :: ") (codes ")") c.in_ok-put.ensures c.in_ok-put_binders.ensures
    (c.deref.ensures.value ∙ c.in_ok-bound.ensures) c.in_ok-put-2.ensures c.in_ok-put_expr.ensures (c.deref-2.ensures.value ∙ c.in_ok-bound.ensures) h) c.put_byte.ensures

pub put_wrapped-returns : goal.put_wrapped-returns
put_wrapped-returns t c =
    on_ok_weaker c.put_closed.result (λ h. h ∙ ap (λ m. m ++ expr_text (naming_of c.args.names.now) (expr_of c.args.a.now) ++ codes ")") c.in_ok-put.ensures) c.put_closed.ensures
