use Rattle.std.proofs.Common.{ap, ◌∙◌}
use Rattle.viper_meaning.specs.Ends.{found}
use Rattle.viper_eval.proofs.AnswerLaws.{passed, goes_then, stops_then, calm_then, calm_stop, ends_is}
use Rattle.viper_eval.specs.Answers.{no_memory}
use Rattle.viper_eval.proofs.places.fill_held.Goals as goal

pub returns-in_err-held : goal.returns-in_err-held
returns-in_err-held c = passed _ _ c.from_residual.ensures.1 (calm_stop _ _ (c.in_err-held.ensures ∙ ap found c.amount_at.ensures))

pub returns-in_err-contain : goal.returns-in_err-contain
returns-in_err-contain c =
    passed _ _ c.from_residual-in_err-contain.ensures.1 (calm_then _ (c.in_ok-held.ensures ∙ ap found c.amount_at.ensures) (stops_then _ c.in_err-contain.ensures))

pub returns-in_err-all : goal.returns-in_err-all
returns-in_err-all c =
    passed _ _ c.from_residual-in_err-all.ensures.1 (calm_then _ (c.in_ok-held.ensures ∙ ap found c.amount_at.ensures) (goes_then _ c.in_ok-contain.ensures
    (calm_stop _ _ c.in_err-all.ensures)))

pub returns-in_err-set_amount : goal.returns-in_err-set_amount
returns-in_err-set_amount c = passed _ _ c.from_residual-in_err-set_amount.ensures.1 no_memory

pub returns : goal.returns
returns c =
    calm_then _ (c.in_ok-held.ensures ∙ ap found c.amount_at.ensures) (goes_then _ c.in_ok-contain.ensures
    (calm_then _ c.in_ok-all.ensures (ends_is _ _ c.in_ok-set_amount.ensures.changed)))
