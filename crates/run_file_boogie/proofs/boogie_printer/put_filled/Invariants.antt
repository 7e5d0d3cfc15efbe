use Rattle.std.proofs.Common.{◌≡◌, ◌++◌, drop}
use Rattle.run_file_boogie.specs.BoogiePrinted.{entries_text}
use Rattle.run_file_boogie.specs.BoogieRun.{entries_of}
use Rattle.run_file_boogie.specs.BoogieView.{filling_of}
use Rattle.run_file_boogie.proofs.boogie_printer.put_filled.Given as goal

abbrev pub invariant-loop-i : goal.invariant-loop-i
invariant-loop-i l = l.out.items ++ entries_text (drop l.i (entries_of (filling_of l.filled))) ≡ l.initial.out.items ++ entries_text (entries_of (filling_of l.filled))
