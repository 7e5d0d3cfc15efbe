-- What is typed so far, and then the terms that are left.
use Rattle.std.proofs.Common.{◌≡◌, drop, map}
use Rattle.viper_core.specs.View.{assertion_of}
use Rattle.viper_syntax.specs.View.{term_of}
use Rattle.viper_scope.specs.Answers.{context_of}
use Rattle.viper_scope.specs.Outcome.{prefixed}
use Rattle.viper_types.specs.Typing.{asserting}
use Rattle.viper_types.proofs.Steps.{each}
use Rattle.viper_types.proofs.assertions.assertions.Given as goal

abbrev pub invariant-loop-term : goal.invariant-loop-term
invariant-loop-term l =
    prefixed (map assertion_of l.typed.items) (each (λ a. asserting (context_of l.context) l.scope (term_of a)) (drop l.term-index l.terms)) ≡ each (λ a. asserting (context_of l.context) l.scope (term_of a)) l.terms
