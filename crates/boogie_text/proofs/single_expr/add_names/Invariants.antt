use Rattle.std.proofs.Common.{◌≡◌, take}
use Rattle.boogie_tree.specs.Whole.{locals_of}
use Rattle.boogie_grammar.specs.Grammar.{local_names}
use Rattle.boogie_text.proofs.single_expr.add_names.Given as goal

abbrev pub invariant-loop-local : goal.invariant-loop-local
invariant-loop-local l = l.names ≡ take l.local-index (local_names (locals_of l.locals))
