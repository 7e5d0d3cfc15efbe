use Rattle.std.proofs.Common.{◌∙◌}
use Rattle.vb_value.specs.Fraction.{write}
use Rattle.viper_state.specs.State.{with_value, with_mask}
use Rattle.viper_state.specs.View.{state_of}
use Rattle.viper_meaning.specs.Run as run
use Rattle.viper_inhale.specs.Answers.{no_memory}
use Rattle.viper_inhale.proofs.DoesLaws.{passed, goes_at_once}
use Rattle.viper_inhale.proofs.FormLaws.{first_stops, both_go}
use Rattle.viper_run.proofs.ChoiceLaws.{value_then}
use Rattle.viper_run.proofs.objects.create_field.Goals as goal

pub returns-in_err-value : goal.returns-in_err-value
returns-in_err-value c =
    passed _ _ c.from_residual.ensures.1 (first_stops _ (value_then c.args.types.now c.args.field (λ v. run.goes (with_mask (with_value (state_of c.args.state.now) c.args.field c.args.reference v) c.args.field c.args.reference write)))
    c.in_err-value.ensures)

pub returns-in_err-set_value : goal.returns-in_err-set_value
returns-in_err-set_value c = passed _ _ c.from_residual-in_err-set_value.ensures.1 no_memory

pub returns-in_err-set_mask : goal.returns-in_err-set_mask
returns-in_err-set_mask c = passed _ _ c.from_residual-in_err-set_mask.ensures.1 no_memory

pub returns : goal.returns
returns c =
    both_go _ (value_then c.args.types.now c.args.field (λ v. run.goes (with_mask (with_value (state_of c.args.state.now) c.args.field c.args.reference v) c.args.field c.args.reference write))) c.in_ok-value.ensures
    (goes_at_once _ _ (c.in_ok-set_mask.ensures.changed ∙ (λ i. with_mask (c.in_ok-set_value.ensures.changed i) c.args.field c.args.reference (c.write.ensures i))))
