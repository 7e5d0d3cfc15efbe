-- The state so far is within the bound.
use Rattle.viper_state.specs.View.{state_of}
use Rattle.viper_state.specs.Within.{IsWithinState}
use Rattle.viper_fixtures.proofs.scenes.state_of.Given as goal

abbrev pub invariant-loop-word : goal.invariant-loop-word
invariant-loop-word l = IsWithinState (state_of l.state)
