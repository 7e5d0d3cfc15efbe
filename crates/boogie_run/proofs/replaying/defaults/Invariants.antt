-- The defaults so far, and those of the variables that are left.
use Rattle.std.proofs.Common.{◌≡◌, ◌++◌, drop, map}
use Rattle.boogie_meaning.specs.Programs.{default_value}
use Rattle.boogie_types.specs.Typed.{types_in}
use Rattle.boogie_eval.specs.View.{values_of}
use Rattle.boogie_run.proofs.replaying.defaults.Given as goal

abbrev pub invariant-loop-local : goal.invariant-loop-local
invariant-loop-local l = record { so_far : map default_value (types_in l.locals) ≡ values_of l.values.items ++ map default_value (types_in (drop l.local-index l.locals)) }
