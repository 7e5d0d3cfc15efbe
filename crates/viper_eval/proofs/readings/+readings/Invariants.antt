-- The values so far and then those of the arguments that are left, after what was recorded so far.
use Rattle.std.proofs.Common.{◌≡◌, ◌++◌, drop}
use Rattle.viper_core.specs.View.{exprs_of}
use Rattle.viper_state.specs.View.{state_of, feed_of}
use Rattle.vb_value.specs.Bound.{Bounded}
use Rattle.viper_meaning.specs.Ends.{is, after, then_with}
use Rattle.viper_meaning.specs.Value.{values}
use Rattle.viper_eval.specs.View.{lent}
use Rattle.viper_eval.proofs.readings.+readings.Given as goal

abbrev pub invariant-eval_all-loop-e : goal.invariant-eval_all-loop-e
invariant-eval_all-loop-e l = record {
  answers : after (feed_of l.fn.feed).events (values Bounded (exprs_of l.es) (state_of l.now) (lent l.scene)) ≡
      after (feed_of l.feed).events (then_with (values Bounded (exprs_of (drop l.e-index l.es)) (state_of l.now) (lent l.scene)) (λ vs. is (l.values.items ++ vs)));
  left : (feed_of l.feed).left ≡ (feed_of l.fn.feed).left;
}
