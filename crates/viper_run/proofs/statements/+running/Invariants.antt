-- What falls at each call of the cycle, and the statements that are left, from where the run stands.
use denote.Param.Weighed.{most}
use Rattle.std.proofs.Common.{◌≡◌, ◌+◌, ◌*◌, drop, max}
use Rattle.vb_value.specs.Bound.{Bounded}
use Rattle.viper_core.proofs.stmts.Stmt.TheLaws.{the_size}
use Rattle.viper_core.specs.View.{stmts_of}
use Rattle.viper_state.specs.View.{feed_of}
use Rattle.viper_meaning.specs.Statements as m
use Rattle.viper_inhale.specs.Answers.{run_of}
use Rattle.viper_run.specs.Ready.{IsReady}
use Rattle.viper_run.specs.View.{activation_of, configuration_of}
use Rattle.viper_run.proofs.statements.+running.Given as goal

abbrev pub invariant-run_block-loop-stmt : goal.invariant-run_block-loop-stmt
invariant-run_block-loop-stmt l = record {
  runs : run_of (m.run_block Bounded (activation_of l.activation) (stmts_of l.stmts) (configuration_of l.fn.configuration)) (feed_of l.fn.feed) ≡
      run_of (m.run_block Bounded (activation_of l.activation) (stmts_of (drop l.stmt-index l.stmts)) (configuration_of l.configuration)) (feed_of l.feed);
  ready : IsReady (activation_of l.activation) (configuration_of l.configuration) (feed_of l.feed);
}

abbrev pub decreases-run_stmt : goal.decreases-run_stmt
decreases-run_stmt l = 3 * goal.size-run_stmt l

abbrev pub decreases-run_block : goal.decreases-run_block
decreases-run_block l = 3 * goal.size-run_block l + 1

-- a condition goes on to either block
abbrev pub decreases-run_if : goal.decreases-run_if
decreases-run_if l = 3 * max (most the_size l.blocks.first.now) (most the_size l.blocks.second.now) + 2

abbrev pub decreases-run_loop : goal.decreases-run_loop
decreases-run_loop l = 3 * goal.size-run_loop l + 1

abbrev pub decreases-run_turn : goal.decreases-run_turn
decreases-run_turn l = 3 * goal.size-run_turn l
