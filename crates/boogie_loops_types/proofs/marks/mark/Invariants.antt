-- The numbers that are left tell it, beside the marks.
use Rattle.std.proofs.Common.{◌≡◌, drop}
use Rattle.boogie_loops.specs.WideTypes.{all_differ}
use Rattle.boogie_loops_types.specs.Marks.{AreAmong, are_new}
use Rattle.boogie_loops_types.proofs.marks.mark.Given as goal

abbrev pub invariant-loop-number : goal.invariant-loop-number
invariant-loop-number l = record {
  place : l.count ≡ l.number-index;
  so_far : all_differ l.numbers ≡ are_new l.marks (drop l.number-index l.numbers);
  among : AreAmong l.numbers l.marks;
}
