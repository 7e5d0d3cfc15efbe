use Rattle.viper_meaning.specs.Ends.{is}
use Rattle.viper_state.specs.State.{with_value}
use Rattle.viper_state.specs.View.{state_of}
use Rattle.viper_eval.specs.Answers.{no_memory}
use Rattle.viper_eval.specs.View.{lent}
use Rattle.viper_eval.proofs.AnswerLaws.{passed, same_answers, calm_stop, calm_then, ends_is}
use Rattle.viper_run.proofs.ObjectLaws.{written_is}
use Rattle.viper_run.proofs.objects.write_field.Goals as goal

pub returns-in_err-hold_whole : goal.returns-in_err-hold_whole
returns-in_err-hold_whole c =
    passed _ _ c.from_residual.ensures.1 (same_answers (written_is (lent c.args.scene) (state_of c.args.state.now) c.args.field c.args.at c.args.reference c.args.value) (calm_stop _ _ c.in_err-hold_whole.ensures))

pub returns-in_err-set_value : goal.returns-in_err-set_value
returns-in_err-set_value c = passed _ _ c.from_residual-in_err-set_value.ensures.1 no_memory

pub returns : goal.returns
returns c =
    same_answers (written_is (lent c.args.scene) (state_of c.args.state.now) c.args.field c.args.at c.args.reference c.args.value)
    (calm_then (λ h. is (with_value (state_of c.args.state.now) c.args.field c.args.reference c.args.value)) c.in_ok-hold_whole.ensures (ends_is _ _ c.in_ok-set_value.ensures.changed))
