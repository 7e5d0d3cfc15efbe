use Rattle.std.proofs.Common.{◌≡◌, ◌++◌, ◌∙◌, sym, ap, codes, []}
use Rattle.std.proofs.lemmas.Result.{on_ok_weaker}
use Rattle.std.specs.declared.alloc.Global.{Global}
use Rattle.std.specs.declared.vec.Vec.{Vec}
use Rattle.boogie_formula.specs.View.{fexpr_of, fexprs_of}
use Rattle.boogie_formula.specs.declared.formulas.FExpr as e
use Rattle.boogie_formula.proofs.ViewLaws.{fexpr_of-At, fexpr_of-With}
use Rattle.boogie_grammar.specs.Printed as text
use Rattle.boogie_grammar.specs.Printed.{name_at, operator_text}
use Rattle.boogie_formula_text.specs.Printed.{fexpr_text, fexprs_text}
use Rattle.boogie_formula_text.specs.View.{naming_of}
use Rattle.boogie_print.proofs.PutLaws.{row_steps, two_steps, three_steps}
use Rattle.boogie_formula_text.proofs.PutLaws.{update_steps, same_end, same_inside, forall_steps, one_more_put, all_put}
use Rattle.boogie_formula_text.proofs.put_exprs.+expressions.Goals as goal

at_text : (x : text.Naming) (whole : e.FExpr) (i : _) (v : Vec e.FExpr Global) → whole ≡ e.At i v →
    fexpr_text x (fexpr_of whole) ≡ name_at x.locals i ++ codes "[" ++ fexprs_text x [] (fexprs_of v.items) ++ codes "]"
at_text x whole i v h = ap (λ y. fexpr_text x (fexpr_of y)) h ∙ ap (fexpr_text x) (fexpr_of-At i v)

with_text : (x : text.Naming) (whole : e.FExpr) (m : _) (v : Vec e.FExpr Global) (d : _) → whole ≡ e.With m v d →
    fexpr_text x (fexpr_of whole) ≡ fexpr_text x (fexpr_of m.value) ++ codes "[" ++ fexprs_text x [] (fexprs_of v.items) ++ codes " := " ++ fexpr_text x (fexpr_of d.value) ++ codes "]"
with_text x whole m v d h = ap (λ y. fexpr_text x (fexpr_of y)) h ∙ ap (fexpr_text x) (fexpr_of-With m v d)

pub put_expr-returns-in_ok-put_exprs-in-At : goal.put_expr-returns-in_ok-put_exprs-in-At
put_expr-returns-in_ok-put_exprs-in-At t c =
    on_ok_weaker c.put-in-At.result (λ h. row_steps c.args.out.now.items (name_at (naming_of c.args.scope.now).locals c.in-At.i) (codes "[") (fexprs_text (naming_of c.args.scope.now) [] (fexprs_of c.in-At.keys.items)) (codes "]")
    c.in_ok-put_map-in-At.ensures (c.in_ok-put_exprs-in-At.ensures ∙ ap (λ y. c.put_map.new.out.items ++ fexprs_text (naming_of c.args.scope.now) [] (fexprs_of y)) c.deref-in-At.ensures.value) h
    ∙ ap (λ y. c.args.out.now.items ++ y) (sym (at_text (naming_of c.args.scope.now) c.args.expr.now c.in-At.i c.in-At.keys c.in-At.is))) c.put-in-At.ensures

pub put_expr-returns-in_ok-put_operator-in-Bin : goal.put_expr-returns-in_ok-put_operator-in-Bin
put_expr-returns-in_ok-put_operator-in-Bin t c =
    rw c.in-Bin.is (on_ok_weaker c.put_between-in-Bin.result (λ h. three_steps c.args.out.now.items (codes "(") (fexpr_text (naming_of c.args.scope.now) (fexpr_of c.in-Bin.a.value)) (codes " ") (operator_text c.in-Bin.op) (codes " ") (fexpr_text (naming_of c.args.scope.now) (fexpr_of c.in-Bin.b.value)) (codes ")")
    (same_end (naming_of c.args.scope.now) (c.args.out.now.items ++ codes "(") c.in-Bin.a.value c.deref-in-Bin.ensures c.in_ok-put_after-in-Bin.ensures) c.in_ok-put_operator-in-Bin.ensures
    (same_inside (naming_of c.args.scope.now) (c.put_operator.new.out.items ++ codes " ") (codes ")") c.in-Bin.b.value c.deref-in-Bin-2.ensures h)) c.put_between-in-Bin.ensures)

pub put_expr-returns-in_ok-put_after-in-If-2 : goal.put_expr-returns-in_ok-put_after-in-If-2
put_expr-returns-in_ok-put_after-in-If-2 t c =
    rw c.in-If.is (on_ok_weaker c.put_between-in-If.result (λ h. three_steps c.args.out.now.items (codes "(if ") (fexpr_text (naming_of c.args.scope.now) (fexpr_of c.in-If.a.value)) (codes " then ") (fexpr_text (naming_of c.args.scope.now) (fexpr_of c.in-If.b.value)) (codes " else ") (fexpr_text (naming_of c.args.scope.now) (fexpr_of c.in-If.c.value)) (codes ")")
    (same_end (naming_of c.args.scope.now) (c.args.out.now.items ++ codes "(if ") c.in-If.a.value c.deref-in-If.ensures c.in_ok-put_after-in-If.ensures)
    (same_end (naming_of c.args.scope.now) (c.put_after-in-If.new.out.items ++ codes " then ") c.in-If.b.value c.deref-in-If-2.ensures c.in_ok-put_after-in-If-2.ensures)
    (same_inside (naming_of c.args.scope.now) (c.put_after-in-If-2.new.out.items ++ codes " else ") (codes ")") c.in-If.c.value c.deref-in-If-3.ensures h)) c.put_between-in-If.ensures)

pub put_expr-returns-in_ok-put_after-in-Pair : goal.put_expr-returns-in_ok-put_after-in-Pair
put_expr-returns-in_ok-put_after-in-Pair t c =
    rw c.in-Pair.is (on_ok_weaker c.put_between-in-Pair.result (λ h. two_steps c.args.out.now.items (codes "sPair(") (fexpr_text (naming_of c.args.scope.now) (fexpr_of c.in-Pair.a.value)) (codes ", ") (fexpr_text (naming_of c.args.scope.now) (fexpr_of c.in-Pair.b.value)) (codes ")")
    (same_end (naming_of c.args.scope.now) (c.args.out.now.items ++ codes "sPair(") c.in-Pair.a.value c.deref-in-Pair.ensures c.in_ok-put_after-in-Pair.ensures)
    (same_inside (naming_of c.args.scope.now) (c.put_after-in-Pair.new.out.items ++ codes ", ") (codes ")") c.in-Pair.b.value c.deref-in-Pair-2.ensures h)) c.put_between-in-Pair.ensures)

pub put_exprs-loop-expr-preserved : goal.put_exprs-loop-expr-preserved
put_exprs-loop-expr-preserved t c =
    one_more_put (naming_of c.args.scope.now) c.args.exprs.now c.loop-expr.expr-index c.expr-item.result c.loop-expr.out.items c.loop-expr.before.now c.loop-expr-test.true c.expr-item.is c.in_ok-put_after.ensures ∙ c.loop-expr.invariant

pub put_exprs-returns : goal.put_exprs-returns
put_exprs-returns t c =
    all_put (naming_of c.args.scope.now) c.args.exprs.now c.loop-expr.expr-index c.loop-expr.out.items c.loop-expr.before.now c.loop-expr-test.false c.loop-expr.invariant

pub put_forall-returns : goal.put_forall-returns
put_forall-returns t c =
    on_ok_weaker c.put-3.result (λ h. forall_steps (naming_of c.args.scope.now) c.args.types.now (fexpr_of c.args.body.now) c.args.out.now.items (codes "(forall ") (codes " :: ") (codes ")") c.in_ok-put.ensures c.in_ok-put_binders.ensures
    (c.deref.ensures.value ∙ c.in_ok-bound.ensures) c.in_ok-put-2.ensures c.in_ok-put_expr.ensures (c.deref-2.ensures.value ∙ c.in_ok-bound.ensures) h) c.put-3.ensures

pub put_between-returns : goal.put_between-returns
put_between-returns t c =
    on_ok_weaker c.put-2.result (λ h. h ∙ ap (λ m. m ++ c.args.behind.now) (c.in_ok-put_expr.ensures ∙ ap (λ m. m ++ fexpr_text (naming_of c.args.scope.now) (fexpr_of c.args.a.now)) c.in_ok-put.ensures)) c.put-2.ensures

pub put_expr-returns-in_ok-put_exprs-in-With : goal.put_expr-returns-in_ok-put_exprs-in-With
put_expr-returns-in_ok-put_exprs-in-With t c =
    on_ok_weaker c.put_between-in-With-2.result (λ h. update_steps c.args.out.now.items (fexpr_text (naming_of c.args.scope.now) (fexpr_of c.in-With.map.value)) (codes "[") (fexprs_text (naming_of c.args.scope.now) [] (fexprs_of c.in-With.keys.items)) (codes " := ") (fexpr_text (naming_of c.args.scope.now) (fexpr_of c.in-With.value.value)) (codes "]")
    (same_inside (naming_of c.args.scope.now) (c.args.out.now.items ++ []) (codes "[") c.in-With.map.value c.deref-in-With.ensures c.in_ok-put_between-in-With.ensures)
    (c.in_ok-put_exprs-in-With.ensures ∙ ap (λ y. c.put_between-in-With.new.out.items ++ fexprs_text (naming_of c.args.scope.now) [] (fexprs_of y)) c.deref-in-With-2.ensures.value)
    (same_inside (naming_of c.args.scope.now) (c.put_exprs-in-With.new.out.items ++ codes " := ") (codes "]") c.in-With.value.value c.deref-in-With-3.ensures h)
    ∙ ap (λ y. c.args.out.now.items ++ y) (sym (with_text (naming_of c.args.scope.now) c.args.expr.now c.in-With.map c.in-With.keys c.in-With.value c.in-With.is))) c.put_between-in-With-2.ensures
