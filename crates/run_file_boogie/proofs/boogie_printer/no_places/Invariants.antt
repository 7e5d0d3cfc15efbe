use Rattle.std.proofs.Common.{◌≡◌, replicate, None}
use Rattle.run_file_boogie.proofs.boogie_printer.no_places.Given as goal

abbrev pub invariant-loop : goal.invariant-loop
invariant-loop l = l.places.items ≡ replicate l.counter None
