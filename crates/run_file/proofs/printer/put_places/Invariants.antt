use Rattle.std.proofs.Common.{◌≡◌, ◌++◌, drop}
use Rattle.sparse.specs.Map.{keys}
use Rattle.run_file.specs.Printed.{places_text}
use Rattle.run_file.proofs.printer.put_places.Given as goal

abbrev pub invariant-loop-i : goal.invariant-loop-i
invariant-loop-i l = l.out.items ++ places_text l.name l.heap (drop l.i (keys l.heap)) ≡ l.initial.out.items ++ places_text l.name l.heap (keys l.heap)
