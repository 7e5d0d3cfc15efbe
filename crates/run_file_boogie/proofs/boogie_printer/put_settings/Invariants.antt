use Rattle.std.proofs.Common.{◌≡◌, ◌++◌, drop}
use Rattle.boogie_tree.specs.Whole.{locals_of}
use Rattle.run_file_boogie.specs.BoogieLines.{known}
use Rattle.run_file_boogie.specs.BoogiePrinted.{given_text}
use Rattle.run_file_boogie.specs.BoogieView.{found_values}
use Rattle.run_file_words.specs.Printed.{numbered_text}
use Rattle.run_file_boogie.proofs.boogie_printer.put_settings.Given as goal

abbrev pub invariant-loop-i : goal.invariant-loop-i
invariant-loop-i l =
    l.out.items ++ numbered_text given_text (known (locals_of l.locals)).names l.i (drop l.i (found_values l.settings l.places)) ≡
    l.initial.out.items ++ numbered_text given_text (known (locals_of l.locals)).names 0 (found_values l.settings l.places)
