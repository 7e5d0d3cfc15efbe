-- The variables that are left tell it.
use Rattle.std.proofs.Common.{◌≡◌, drop}
use Rattle.boogie_meaning.specs.Programs.{have_keys}
use Rattle.boogie_types.specs.Typed.{types_in}
use Rattle.boogie_types.proofs.typing.have_keys.Given as goal

abbrev pub invariant-loop-local : goal.invariant-loop-local
invariant-loop-local l = record { so_far : have_keys (types_in l.locals) ≡ have_keys (types_in (drop l.local-index l.locals)) }
