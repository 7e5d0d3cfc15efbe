use Rattle.viper_core.specs.View.{expr_of}
use Rattle.viper_inhale.proofs.DoesLaws.{passed}
use Rattle.viper_run.specs.View.{activation_of, configuration_of}
use Rattle.viper_run.proofs.StepLaws.{assign_stops, assigned}
use Rattle.viper_run.proofs.steps.assign.Goals as goal

pub returns-in_err-value : goal.returns-in_err-value
returns-in_err-value c =
    passed _ _ c.from_residual.ensures.1 (assign_stops (activation_of c.args.activation) (configuration_of c.args.configuration.now) c.scene-scene.ensures c.args.variable (expr_of c.args.e.now) c.in_err-value.ensures.answers c.in_err-value.ensures.left)

pub returns : goal.returns
returns c =
    assigned (activation_of c.args.activation) (configuration_of c.args.configuration.now) c.scene-scene.ensures c.args.variable (expr_of c.args.e.now) c.set.new.self.values.items c.set.ensures c.in_ok-value.ensures.answers c.in_ok-value.ensures.left
