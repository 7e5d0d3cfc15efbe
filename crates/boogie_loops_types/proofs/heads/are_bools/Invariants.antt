-- The conditions that are left tell it.
use Rattle.std.proofs.Common.{◌≡◌, drop, map}
use Rattle.boogie_types.specs.Typed.{types_in}
use Rattle.boogie_loops.specs.View.{clause_of}
use Rattle.boogie_loops.specs.WideTypes.{are_bools}
use Rattle.boogie_loops_types.proofs.heads.are_bools.Given as goal

abbrev pub invariant-loop-clause : goal.invariant-loop-clause
invariant-loop-clause l = record { so_far : are_bools (types_in l.locals) (map clause_of l.clauses) ≡ are_bools (types_in l.locals) (map clause_of (drop l.clause-index l.clauses)) }
