-- The clauses that are left, in the state so far.
use Rattle.std.proofs.Common.{◌≡◌, All, drop}
use Rattle.vb_value.specs.Bound.{Bounded}
use Rattle.viper_core.specs.View.{assertions_of}
use Rattle.viper_state.specs.View.{feed_of, state_of}
use Rattle.viper_state.specs.Within.{IsWithinChoice, IsWithinState}
use Rattle.viper_meaning.specs.Statements as m
use Rattle.viper_eval.specs.View.{lent}
use Rattle.viper_inhale.specs.Answers.{run_of}
use Rattle.viper_run.proofs.clauses.produce_all.Given as goal

abbrev pub invariant-loop-clause : goal.invariant-loop-clause
invariant-loop-clause l = record {
  runs : run_of (m.produce_all Bounded (assertions_of l.clauses) (lent l.scene) (state_of l.fn.state)) (feed_of l.fn.feed) ≡
      run_of (m.produce_all Bounded (assertions_of (drop l.clause-index l.clauses)) (lent l.scene) (state_of l.state)) (feed_of l.feed);
  within : IsWithinState (state_of l.state);
  choices : All IsWithinChoice (feed_of l.feed).left;
}
