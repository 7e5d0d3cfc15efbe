-- The procedures so far are well-typed.
use Rattle.std.proofs.Common.{◌≡◌, ◌+◌, drop, map}
use Rattle.std.specs.Option.{option_map}
use Rattle.boogie_tree.specs.Whole.{proc_of}
use Rattle.boogie_meaning.specs.Programs.{ill_typed_among}
use Rattle.boogie_types.proofs.typing.first_ill_typed.Given as goal

abbrev pub invariant-loop-proc : goal.invariant-loop-proc
invariant-loop-proc l = record {
  place : l.number ≡ l.proc-index;
  so_far : ill_typed_among (map proc_of l.procs) ≡ option_map (λ n. l.number + n) (ill_typed_among (map proc_of (drop l.proc-index l.procs)));
}
