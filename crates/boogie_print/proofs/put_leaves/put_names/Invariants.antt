use Rattle.std.proofs.Common.{◌≡◌, ◌++◌, [], drop}
use Rattle.boogie_grammar.specs.Printed as text
use Rattle.boogie_print.proofs.put_leaves.put_names.Given as goal

abbrev pub invariant-loop-name : goal.invariant-loop-name
invariant-loop-name l = l.out.items ++ text.names_text l.before (drop l.name-index l.names) ≡ l.initial.out.items ++ text.names_text [] l.names
