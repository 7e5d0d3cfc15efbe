use Rattle.std.proofs.Common.{◌≡◌, ◌++◌, [], drop}
use Rattle.boogie_grammar.specs.Printed as text
use Rattle.boogie_grammar.proofs.naming.bound_names.Given as goal

abbrev pub invariant-loop : goal.invariant-loop
invariant-loop l = l.chosen.items ++ text.bound_names l.taken l.chosen.items (drop l.index l.types) ≡ text.bound_names l.taken [] l.types
