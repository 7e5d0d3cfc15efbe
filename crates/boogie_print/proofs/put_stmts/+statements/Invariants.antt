use Rattle.std.proofs.Common.{◌≡◌, ◌++◌, drop}
use Rattle.boogie_tree.specs.Whole as b
use Rattle.boogie_grammar.specs.Naming.{naming_of}
use Rattle.boogie_grammar.specs.Printed.{stmts_text}
use Rattle.boogie_print.proofs.put_stmts.+statements.Given as goal

abbrev pub invariant-put_statements-loop-stmt : goal.invariant-put_statements-loop-stmt
invariant-put_statements-loop-stmt l =
    l.out.items ++ stmts_text (naming_of l.names) (b.stmts_of (drop l.stmt-index l.stmts)) ≡ l.initial.out.items ++ stmts_text (naming_of l.names) (b.stmts_of l.stmts)
