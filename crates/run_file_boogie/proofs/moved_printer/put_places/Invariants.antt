use Rattle.std.proofs.Common.{◌≡◌, ◌++◌, All, drop, map, take}
use Rattle.sparse.specs.Map.{borrowed}
use Rattle.moves.specs.Printable.{IsNamedEntry}
use Rattle.run_file_boogie.specs.BoogiePrinted.{entries_text}
use Rattle.run_file_boogie.specs.MovedView.{place_entry}
use Rattle.run_file_boogie.proofs.moved_printer.put_places.Given as goal

abbrev pub invariant-loop-place : goal.invariant-loop-place
invariant-loop-place l =
    (l.out.items ++ entries_text (map place_entry (borrowed (drop l.place-index l.places))) ≡ l.initial.out.items ++ entries_text (map place_entry (borrowed l.places))) ×
    All (λ e. IsNamedEntry (place_entry e)) (borrowed (take l.place-index l.places))
