use Rattle.std.proofs.Common.{◌≡◌, map, take}
use Rattle.boogie_tree.specs.Whole.{setting_of}
use Rattle.run_file_boogie.specs.BoogiePrinted.{given}
use Rattle.run_file_boogie.specs.BoogieView.{found_values}
use Rattle.run_file_boogie.proofs.boogie_printer.last_places.Given as goal

abbrev pub invariant-loop-i : goal.invariant-loop-i
invariant-loop-i l = found_values l.settings l.places.items ≡ given l.count (take l.i (map setting_of l.settings))
