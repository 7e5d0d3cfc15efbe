-- The clauses that are left, in what is left so far.
use Rattle.std.proofs.Common.{◌≡◌, drop}
use Rattle.vb_value.specs.Bound.{Bounded}
use Rattle.viper_core.specs.View.{assertions_of}
use Rattle.viper_state.specs.View.{feed_of, state_of}
use Rattle.viper_meaning.specs.Statements as m
use Rattle.viper_eval.specs.View.{lent}
use Rattle.viper_inhale.specs.Answers.{run_of}
use Rattle.viper_run.proofs.clauses.consume_all.Given as goal

abbrev pub invariant-loop-clause : goal.invariant-loop-clause
invariant-loop-clause l =
    run_of (m.consume_all Bounded (assertions_of l.clauses) (state_of l.start) (lent l.scene) (state_of l.fn.left)) (feed_of l.fn.feed) ≡
    run_of (m.consume_all Bounded (assertions_of (drop l.clause-index l.clauses)) (state_of l.start) (lent l.scene) (state_of l.left)) (feed_of l.feed)
