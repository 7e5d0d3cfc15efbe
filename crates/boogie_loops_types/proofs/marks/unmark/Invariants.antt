-- What is still marked is among the numbers that are left.
use Rattle.std.proofs.Common.{drop}
use Rattle.boogie_loops_types.specs.Marks.{AreAmong}
use Rattle.boogie_loops_types.proofs.marks.unmark.Given as goal

abbrev pub invariant-loop-number : goal.invariant-loop-number
invariant-loop-number l = AreAmong (drop l.number-index l.numbers) l.marks
