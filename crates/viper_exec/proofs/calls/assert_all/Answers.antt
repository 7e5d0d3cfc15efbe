use Rattle.std.proofs.Common.{refl, sym, ap}
use Rattle.vb_value.specs.Bound.{Bounded}
use Rattle.viper_core.specs.View.{assertions_of}
use Rattle.viper_state.specs.View.{state_of}
use Rattle.viper_meaning.specs.Statements as m
use Rattle.viper_eval.specs.View.{lent}
use Rattle.viper_inhale.specs.Answers.{no_memory}
use Rattle.viper_inhale.proofs.DoesLaws.{passed, same_run}
use Rattle.viper_run.proofs.StepLaws.{ended_as}
use Rattle.viper_exec.proofs.calls.assert_all.Goals as goal

pub returns-in_err-left : goal.returns-in_err-left
returns-in_err-left c = passed _ _ c.from_residual.ensures.1 no_memory

pub returns : goal.returns
returns c =
    let start = state_of c.args.state.now in
    ended_as (λ left. tt) (λ x. refl) (same_run (ap (λ s. m.consume_all Bounded (assertions_of c.args.clauses.now) start (lent c.args.scene) s) (sym c.in_ok-left.ensures)) c.consume_all.ensures)
