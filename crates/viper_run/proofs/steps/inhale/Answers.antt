use Rattle.viper_core.specs.View.{assertion_of}
use Rattle.viper_state.specs.View.{state_of}
use Rattle.viper_run.specs.View.{activation_of, configuration_of}
use Rattle.viper_run.proofs.StepLaws.{inhaled}
use Rattle.viper_run.proofs.steps.inhale.Goals as goal

pub returns : goal.returns
returns c = inhaled (activation_of c.args.activation) (configuration_of c.args.configuration.now) c.scene-scene.ensures (assertion_of c.args.a.now) (state_of c.produce_in.new.state) c.write.ensures c.produce_in.ensures
