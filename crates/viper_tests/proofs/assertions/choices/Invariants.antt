-- The choices so far are within the bound.
use Rattle.std.proofs.Common.{All}
use Rattle.viper_state.specs.View.{choice_of}
use Rattle.viper_state.specs.Within.{IsWithinChoice}
use Rattle.viper_tests.proofs.assertions.choices.Given as goal

abbrev pub invariant-loop-part : goal.invariant-loop-part
invariant-loop-part l = All (λ c. IsWithinChoice (choice_of c)) l.choices.items
