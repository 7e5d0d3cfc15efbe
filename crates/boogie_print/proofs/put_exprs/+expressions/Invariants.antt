use Rattle.std.proofs.Common.{◌≡◌, ◌++◌, [], drop}
use Rattle.boogie_tree.specs.Whole as b
use Rattle.boogie_grammar.specs.Naming.{naming_of}
use Rattle.boogie_grammar.specs.Printed as text
use Rattle.boogie_print.proofs.put_exprs.+expressions.Given as goal

abbrev pub invariant-put_exprs-loop-expr : goal.invariant-put_exprs-loop-expr
invariant-put_exprs-loop-expr l =
    l.out.items ++ text.exprs_text (naming_of l.names) l.before (b.exprs_of (drop l.expr-index l.exprs)) ≡ l.initial.out.items ++ text.exprs_text (naming_of l.names) [] (b.exprs_of l.exprs)
