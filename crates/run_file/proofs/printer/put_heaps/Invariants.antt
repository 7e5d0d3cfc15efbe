use Rattle.std.proofs.Common.{◌≡◌, ◌++◌, drop}
use Rattle.run_file_words.specs.Printed.{numbered_text}
use Rattle.run_file.specs.Printed.{heap_text}
use Rattle.run_file.proofs.printer.put_heaps.Given as goal

abbrev pub invariant-loop-i : goal.invariant-loop-i
invariant-loop-i l = l.out.items ++ numbered_text heap_text l.fields l.i (drop l.i l.heaps) ≡ l.initial.out.items ++ numbered_text heap_text l.fields 0 l.heaps
