use Rattle.viper_core.specs.View.{assertion_of}
use Rattle.viper_state.specs.View.{state_of}
use Rattle.viper_inhale.specs.Answers.{no_memory}
use Rattle.viper_inhale.proofs.DoesLaws.{passed}
use Rattle.viper_run.specs.View.{activation_of, configuration_of}
use Rattle.viper_run.proofs.StepLaws.{checked}
use Rattle.viper_run.proofs.steps.check.Goals as goal

pub returns-in_err-left : goal.returns-in_err-left
returns-in_err-left c = passed _ _ c.from_residual.ensures.1 no_memory

pub returns : goal.returns
returns c = checked (activation_of c.args.activation) (configuration_of c.args.configuration.now) c.scene-scene.ensures (assertion_of c.args.a.now) (state_of c.consume_in.new.left) c.in_ok-left.ensures c.write.ensures c.consume_in.ensures
