use Rattle.std.proofs.Common.{◌≡◌, ◌++◌, map, drop}
use Rattle.boogie_formula.specs.View.{fexpr_of}
use Rattle.boogie_formula_text.specs.Printed.{definitions_text}
use Rattle.boogie_formula_text.proofs.printer.put_definitions.Given as goal

abbrev pub invariant-loop-i : goal.invariant-loop-i
invariant-loop-i l = l.out.items ++ definitions_text l.variables l.i (map fexpr_of (drop l.i l.lets)) ≡ l.initial.out.items ++ definitions_text l.variables 0 (map fexpr_of l.lets)
