use Rattle.std.proofs.Common.{◌≡◌, ◌++◌, ℕ, List, drop, map}
use Rattle.viper_core.specs.Program.{Predicate}
use Rattle.viper_core.specs.View.{predicate_of}
use Rattle.enc_locals.proofs.names.add_predicates.Given as goal

abbrev pub invariant-loop-predicate : goal.invariant-loop-predicate
invariant-loop-predicate l =
    let named : List Predicate → List (List ℕ) = λ ds. map (λ x. l.front ++ x) (map (λ d. d.name) ds) in
    l.out.items ++ named (map predicate_of (drop l.predicate-index l.predicates)) ≡ l.initial.out.items ++ named (map predicate_of l.predicates)
