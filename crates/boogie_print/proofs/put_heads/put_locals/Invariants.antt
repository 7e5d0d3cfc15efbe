use Rattle.std.proofs.Common.{◌≡◌, ◌++◌, drop}
use Rattle.boogie_tree.specs.Whole.{locals_of}
use Rattle.boogie_grammar.specs.Printed.{locals_text}
use Rattle.boogie_print.proofs.put_heads.put_locals.Given as goal

abbrev pub invariant-loop-local : goal.invariant-loop-local
invariant-loop-local l = l.out.items ++ locals_text (locals_of (drop l.local-index l.locals)) ≡ l.initial.out.items ++ locals_text (locals_of l.locals)
