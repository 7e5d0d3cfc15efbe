-- What is typed so far, and then the terms that are left.
use Rattle.std.proofs.Common.{◌≡◌, drop, map}
use Rattle.viper_syntax.specs.View.{term_of}
use Rattle.viper_scope.specs.Answers.{typing_of, context_of}
use Rattle.viper_scope.specs.Outcome.{prefixed}
use Rattle.viper_types.specs.Typing.{typing}
use Rattle.viper_types.proofs.Steps.{each}
use Rattle.viper_types.proofs.expressions.+expressions.Given as goal

abbrev pub invariant-typings-loop-term : goal.invariant-typings-loop-term
invariant-typings-loop-term l =
    prefixed (map typing_of l.typed.items) (each (λ a. typing (context_of l.context) l.scope (term_of a)) (drop l.term-index l.terms)) ≡ each (λ a. typing (context_of l.context) l.scope (term_of a)) l.terms
