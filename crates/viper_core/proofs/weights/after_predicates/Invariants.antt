-- What the predicates that are left leave is what all of them leave.
use Rattle.std.proofs.Common.{◌≡◌, ◌-◌, drop, map}
use Rattle.viper_core.specs.View.{program_of, predicate_of}
use Rattle.viper_core.specs.Weight.{predicates_weight}
use Rattle.viper_core.proofs.weights.after_predicates.Given as goal

abbrev pub invariant-loop-predicate : goal.invariant-loop-predicate
invariant-loop-predicate l =
    l.left - predicates_weight (program_of l.program) (map predicate_of (drop l.predicate-index l.predicates)) ≡ l.fn.room - predicates_weight (program_of l.program) (map predicate_of l.predicates)
