-- The indices so far, each with the names of its variables.
use Rattle.std.proofs.Common.{◌≡◌, map, take}
use Rattle.boogie_tree.specs.Whole.{expr_of}
use Rattle.boogie_formula.specs.View.{fexpr_of}
use Rattle.boogie_wp.specs.Build.{number_at}
use Rattle.boogie_wp.specs.Lifted.{lifted}
use Rattle.boogie_wp.proofs.lift.+lifting.Given as goal

abbrev pub invariant-lift_all-loop-e : goal.invariant-lift_all-loop-e
invariant-lift_all-loop-e l = map fexpr_of l.keys.items ≡ map (λ e. lifted (number_at l.names) (expr_of e)) (take l.e-index l.es)
