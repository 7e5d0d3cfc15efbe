-- The types so far, and then those of the locals that are left.
use Rattle.std.proofs.Common.{◌≡◌, ◌++◌, drop}
use Rattle.boogie_cut.specs.View.{types_in, types_of_all}
use Rattle.boogie_cut.proofs.calls.add_types.Given as goal

abbrev pub invariant-loop-local : goal.invariant-loop-local
invariant-loop-local l = types_of_all l.types.items ++ types_in (drop l.local-index l.locals) ≡ types_of_all l.initial.types.items ++ types_in l.locals
