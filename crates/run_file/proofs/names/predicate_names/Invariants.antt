use Rattle.std.proofs.Common.{◌≡◌, take, map}
use Rattle.viper_core.specs.Program as p
use Rattle.viper_core.specs.View.{predicate_of}
use Rattle.run_file.proofs.names.predicate_names.Given as goal

abbrev pub invariant-loop-predicate : goal.invariant-loop-predicate
invariant-loop-predicate l = l.known ≡ take l.predicate-index (map (λ (d : p.Predicate). d.name) (map predicate_of l.predicates))
