use Rattle.std.proofs.Common.{◌≡◌, ◌++◌, All, drop, map, take}
use Rattle.boogie_tree.specs.Whole.{entry_of}
use Rattle.moves.specs.Printable.{IsNamedEntry}
use Rattle.run_file_boogie.specs.BoogiePrinted.{entries_text}
use Rattle.run_file_boogie.proofs.boogie_printer.put_entries.Given as goal

abbrev pub invariant-loop-entry : goal.invariant-loop-entry
invariant-loop-entry l =
    (l.out.items ++ entries_text (map entry_of (drop l.entry-index l.entries)) ≡ l.initial.out.items ++ entries_text (map entry_of l.entries)) ×
    All IsNamedEntry (map entry_of (take l.entry-index l.entries))
