-- The types so far, and then those of the locals that are left.
use Rattle.std.proofs.Common.{◌≡◌, ◌++◌, drop}
use Rattle.boogie_wp.specs.View.{types_in, types_of_all}
use Rattle.boogie_wp.proofs.variables.variables.Given as goal

abbrev pub invariant-loop-local : goal.invariant-loop-local
invariant-loop-local l = types_of_all l.vars.items ++ types_in (drop l.local-index l.local-items) ≡ types_in l.local-items
