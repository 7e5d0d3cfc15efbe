use Rattle.std.proofs.Common.{◌≡◌, List, Some, map, drop}
use Rattle.boogie_tree.specs.Program.{BType}
use Rattle.boogie_tree.specs.Whole.{type_of}
use Rattle.boogie_formula.specs.Types.{defined_types}
use Rattle.boogie_formula.specs.View.{fexpr_of}
use Rattle.cert_check.proofs.kinds.types_of.Given as goal

abbrev pub invariant-loop-e : goal.invariant-loop-e
invariant-loop-e l = (all : List BType) → defined_types (map fexpr_of l.conditions.lets.items) (map type_of l.conditions.vars.items) ≡ Some all →
    defined_types (map fexpr_of (drop l.e-index l.e-items)) (map type_of l.types.items) ≡ Some all
