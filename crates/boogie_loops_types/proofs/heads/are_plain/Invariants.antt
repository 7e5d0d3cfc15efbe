-- The variables that are left tell it.
use Rattle.std.proofs.Common.{◌≡◌, drop}
use Rattle.std.specs.List.{list_all}
use Rattle.boogie_types.specs.Typed.{types_in}
use Rattle.boogie_loops.specs.WideTypes.{is_plain}
use Rattle.boogie_loops_types.proofs.heads.are_plain.Given as goal

abbrev pub invariant-loop-local : goal.invariant-loop-local
invariant-loop-local l = record { so_far : list_all is_plain (types_in l.locals) ≡ list_all is_plain (types_in (drop l.local-index l.locals)) }
