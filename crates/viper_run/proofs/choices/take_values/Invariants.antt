-- The values so far, and those of the variables that are left.
use Rattle.std.proofs.Common.{◌≡◌, ◌++◌, drop}
use Rattle.viper_state.specs.View.{feed_of}
use Rattle.viper_meaning.specs.Run as run
use Rattle.viper_meaning.specs.Statements as m
use Rattle.viper_inhale.specs.Answers.{run_of}
use Rattle.viper_run.proofs.choices.take_values.Given as goal

abbrev pub invariant-loop-variable : goal.invariant-loop-variable
invariant-loop-variable l =
    run_of (m.taking_values l.types l.variables) (feed_of l.fn.feed) ≡
    run_of (run.then_do (m.taking_values l.types (drop l.variable-index l.variables)) (λ vs. run.goes (l.values.items ++ vs))) (feed_of l.feed)
