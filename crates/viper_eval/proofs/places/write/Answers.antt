use Rattle.std.proofs.Common.{refl, sym, ap, ◌∙◌}
use Rattle.viper_meaning.specs.Ends.{found}
use Rattle.viper_eval.proofs.AnswerLaws.{passed, if_so, if_not, calm_then, calm_stop, unless_holds, unless_fails, ends_is}
use Rattle.viper_eval.specs.Answers.{no_memory}
use Rattle.viper_eval.specs.Steps.{assumed}
use Rattle.viper_eval.proofs.places.write.Goals as goal

pub returns-in_err-set_value : goal.returns-in_err-set_value
returns-in_err-set_value c = passed _ _ c.from_residual.ensures.1 no_memory

pub returns-then-is_none : goal.returns-then-is_none
returns-then-is_none c = if_so _ _ _ (sym c.if-is_none.ensures) (ends_is _ _ c.in_ok-set_value.ensures.changed)

pub returns-in_err-old : goal.returns-in_err-old
returns-in_err-old c =
    passed _ _ c.from_residual-in_err-old.ensures.1 (if_not _ _ _ (sym c.if-is_none.ensures) (calm_stop _ _ (c.in_err-old.ensures ∙ ap found c.value_at.ensures)))

pub returns-in_err-assumed : goal.returns-in_err-assumed
returns-in_err-assumed c =
    passed _ _ c.from_residual-in_err-assumed.ensures.1 (if_not _ _ _ (sym c.if-is_none.ensures) (calm_then _ (c.in_ok-old.ensures ∙ ap found c.value_at.ensures)
    (unless_fails _ _ _ (c.in_err-assumed.ensures ∙ ap assumed c.is_same.ensures))))

pub returns : goal.returns
returns c =
    if_not _ _ _ (sym c.if-is_none.ensures) (calm_then _ (c.in_ok-old.ensures ∙ ap found c.value_at.ensures)
    (unless_holds _ _ _ (c.in_ok-assumed.ensures ∙ ap assumed c.is_same.ensures) (ends_is _ _ refl)))
