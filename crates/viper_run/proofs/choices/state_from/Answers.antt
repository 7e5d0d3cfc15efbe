use Rattle.viper_state.specs.View.{feed_of}
use Rattle.viper_inhale.specs.Answers.{no_memory}
use Rattle.viper_inhale.proofs.DoesLaws.{passed}
use Rattle.viper_run.proofs.ChoiceLaws.{noted}
use Rattle.viper_run.proofs.choices.state_from.Goals as goal

pub returns-in_err-state : goal.returns-in_err-state
returns-in_err-state c = passed _ _ c.from_residual.ensures.1 no_memory

pub returns-in_err-record : goal.returns-in_err-record
returns-in_err-record c = passed _ _ c.from_residual-in_err-record.ensures.1 no_memory

pub returns : goal.returns
returns c = noted (feed_of c.args.feed.now) (feed_of c.record.new.self) _ _ c.in_ok-record.ensures.events c.in_ok-record.ensures.left c.in_ok-state.ensures
