-- The numbers from here on.
use Rattle.std.proofs.Common.{◌-◌, length}
use Rattle.boogie_loops.proofs.ProcsLaws.{HaveNumbersFrom}
use Rattle.boogie_loops.proofs.procs.numbers_of.Given as goal

abbrev pub invariant-loop-later : goal.invariant-loop-later
invariant-loop-later l = HaveNumbersFrom l.numbers.entries (length l.all - l.later) l.all
