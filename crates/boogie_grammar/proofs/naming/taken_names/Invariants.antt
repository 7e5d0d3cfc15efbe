use Rattle.std.proofs.Common.{◌≡◌, ◌++◌, filter, drop}
use Rattle.boogie_tree.specs.Whole as b
use Rattle.boogie_grammar.specs.Grammar.{local_names}
use Rattle.boogie_grammar.specs.Printed as text
use Rattle.boogie_grammar.proofs.naming.taken_names.Given as goal

abbrev pub invariant-loop-local : goal.invariant-loop-local
invariant-loop-local l =
    l.names.items ++ filter text.is_q (local_names (b.locals_of (drop l.local-index l.locals))) ≡ filter text.is_q (local_names (b.locals_of l.locals))
