use Rattle.std.proofs.Common.{◌≡◌, ◌++◌, [], drop}
use Rattle.boogie_formula.specs.View as f
use Rattle.boogie_formula_text.specs.Printed.{fexprs_text}
use Rattle.boogie_formula_text.specs.View.{naming_of}
use Rattle.boogie_formula_text.proofs.put_exprs.+expressions.Given as goal

abbrev pub invariant-put_exprs-loop-expr : goal.invariant-put_exprs-loop-expr
invariant-put_exprs-loop-expr l =
    l.out.items ++ fexprs_text (naming_of l.scope) l.before (f.fexprs_of (drop l.expr-index l.exprs)) ≡ l.initial.out.items ++ fexprs_text (naming_of l.scope) [] (f.fexprs_of l.exprs)
