use Rattle.std.proofs.Common.{refl}
use Rattle.viper_core.specs.View.{expr_of}
use Rattle.viper_state.specs.View.{state_of}
use Rattle.viper_meaning.specs.Run as run
use Rattle.viper_meaning.specs.Statements.{with_state}
use Rattle.viper_eval.proofs.AnswerLaws.{calmly}
use Rattle.viper_inhale.proofs.DoesLaws.{passed, goes_at_once}
use Rattle.viper_inhale.proofs.FormLaws.{part_stops, part_goes}
use Rattle.viper_run.specs.View.{activation_of, configuration_of}
use Rattle.viper_run.proofs.StepLaws.{receiver_stops, side_stops, written}
use Rattle.viper_run.proofs.steps.write.Goals as goal

pub returns-in_err-reference : goal.returns-in_err-reference
returns-in_err-reference c =
    passed _ _ c.from_residual.ensures.1 (receiver_stops (activation_of c.args.activation) (configuration_of c.args.configuration.now) c.scene-scene.ensures (expr_of c.args.place.receiver.now) c.args.place.field c.args.place.at (expr_of c.args.d.now) c.in_err-reference.ensures.answers c.in_err-reference.ensures.left)

pub returns-in_err-value : goal.returns-in_err-value
returns-in_err-value c =
    passed _ _ c.from_residual-in_err-value.ensures.1 (side_stops (activation_of c.args.activation) (configuration_of c.args.configuration.now) c.scene-scene.ensures (expr_of c.args.place.receiver.now) c.args.place.field c.args.place.at (expr_of c.args.d.now) c.in_ok-reference.ensures.answers c.in_ok-reference.ensures.left
    c.in_err-value.ensures.answers c.in_err-value.ensures.left)

pub returns-in_err-write_field : goal.returns-in_err-write_field
returns-in_err-write_field c =
    passed _ _ c.from_residual-in_err-write_field.ensures.1 (written (activation_of c.args.activation) (configuration_of c.args.configuration.now) c.scene-scene.ensures (expr_of c.args.place.receiver.now) c.args.place.field c.args.place.at (expr_of c.args.d.now) c.in_ok-reference.ensures.answers c.in_ok-reference.ensures.left
    c.in_ok-value.ensures.answers c.in_ok-value.ensures.left (part_stops {v = λ x. state_of c.write_field.new.state} _ refl (calmly _ c.in_err-write_field.ensures) refl))

pub returns : goal.returns
returns c =
    written (activation_of c.args.activation) (configuration_of c.args.configuration.now) c.scene-scene.ensures (expr_of c.args.place.receiver.now) c.args.place.field c.args.place.at (expr_of c.args.d.now) c.in_ok-reference.ensures.answers c.in_ok-reference.ensures.left
    c.in_ok-value.ensures.answers c.in_ok-value.ensures.left (part_goes {v = λ x. state_of c.write_field.new.state} (λ s. run.goes (with_state (configuration_of c.args.configuration.now) s)) refl (calmly _ c.in_ok-write_field.ensures) refl (goes_at_once _ _ refl))
