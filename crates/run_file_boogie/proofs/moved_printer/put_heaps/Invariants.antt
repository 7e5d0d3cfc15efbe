use Rattle.std.proofs.Common.{◌≡◌, ◌++◌, All, drop, map, take}
use Rattle.moves.specs.Moves.{heap_choice}
use Rattle.moves.specs.Printable.{IsNamedMove}
use Rattle.run_file_boogie.specs.BoogiePrinted.{choices_text}
use Rattle.run_file_boogie.proofs.moved_printer.put_heaps.Given as goal

abbrev pub invariant-loop-heap : goal.invariant-loop-heap
invariant-loop-heap l =
    (l.out.items ++ choices_text (map heap_choice (drop l.heap-index l.heaps)) ≡ l.initial.out.items ++ choices_text (map heap_choice l.heaps)) ×
    All IsNamedMove (map heap_choice (take l.heap-index l.heaps))
