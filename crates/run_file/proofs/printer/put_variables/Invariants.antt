use Rattle.std.proofs.Common.{◌≡◌, ◌++◌, drop}
use Rattle.run_file_words.specs.Printed.{numbered_text}
use Rattle.run_file.specs.Printed.{var_text}
use Rattle.run_file.proofs.printer.put_variables.Given as goal

abbrev pub invariant-loop-i : goal.invariant-loop-i
invariant-loop-i l = l.out.items ++ numbered_text var_text l.names l.i (drop l.i l.values) ≡ l.initial.out.items ++ numbered_text var_text l.names 0 l.values
