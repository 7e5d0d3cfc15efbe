use Rattle.viper_core.specs.View.{fold_of}
use Rattle.viper_state.specs.View.{state_of}
use Rattle.viper_run.specs.View.{activation_of, configuration_of}
use Rattle.viper_run.proofs.StepLaws.{folded}
use Rattle.viper_run.proofs.steps.fold.Goals as goal

pub returns : goal.returns
returns c = folded (activation_of c.args.activation) (configuration_of c.args.configuration.now) (fold_of c.args.instance.now) c.scene-scene.ensures (state_of c.fold_in.new.state) c.fold_in.ensures
