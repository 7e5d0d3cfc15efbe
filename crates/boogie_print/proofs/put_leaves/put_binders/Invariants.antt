use Rattle.std.proofs.Common.{◌≡◌, ◌++◌, [], drop}
use Rattle.boogie_grammar.specs.Printed as text
use Rattle.boogie_print.proofs.put_leaves.put_binders.Given as goal

abbrev pub invariant-loop-i : goal.invariant-loop-i
invariant-loop-i l = l.out.items ++ text.binders_text l.before (drop l.i l.names) (drop l.i l.types) ≡ l.initial.out.items ++ text.binders_text [] l.names l.types
