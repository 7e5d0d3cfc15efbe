use Rattle.std.proofs.Common.{◌≡◌, ◌++◌, map, drop}
use Rattle.boogie_tree.specs.Whole.{type_of}
use Rattle.boogie_formula_text.specs.Printed.{variables_text}
use Rattle.boogie_formula_text.proofs.printer.put_variables.Given as goal

abbrev pub invariant-loop-i : goal.invariant-loop-i
invariant-loop-i l = l.out.items ++ variables_text l.i (map type_of (drop l.i l.types)) ≡ l.initial.out.items ++ variables_text 0 (map type_of l.types)
