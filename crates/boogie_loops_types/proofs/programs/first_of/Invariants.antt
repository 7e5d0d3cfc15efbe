-- The procedures so far are well-typed.
use Rattle.std.proofs.Common.{◌≡◌, ◌+◌, drop, map}
use Rattle.std.specs.Option.{option_map}
use Rattle.boogie_loops.specs.View.{wproc_of}
use Rattle.boogie_loops.specs.WideTypes.{ill_typed_wide}
use Rattle.boogie_loops_types.proofs.programs.first_of.Given as goal

abbrev pub invariant-loop-proc : goal.invariant-loop-proc
invariant-loop-proc l = record {
  place : l.number ≡ l.proc-index;
  so_far : ill_typed_wide (map wproc_of l.procs.all.now) (map wproc_of l.procs.all.now) ≡
      option_map (λ n. l.number + n) (ill_typed_wide (map wproc_of l.procs.all.now) (map wproc_of (drop l.proc-index l.procs.all.now)));
}
