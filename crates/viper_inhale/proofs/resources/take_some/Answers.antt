use Rattle.std.proofs.Common.{ap, ◌∙◌}
use Rattle.std.specs.Ordering.{is_lt}
use Rattle.viper_eval.specs.Steps.{assumed}
use Rattle.viper_eval.proofs.AnswerLaws.{passed, calm_then, calm_stop, unless_holds, unless_fails, tested_value, tested_stop}
use Rattle.viper_inhale.proofs.resources.take_some.Goals as goal

pub returns-in_err-assumed : goal.returns-in_err-assumed
returns-in_err-assumed c = passed _ _ c.from_residual.ensures.1 (unless_fails _ _ _ (c.in_err-assumed.ensures ∙ ap assumed c.is_positive.ensures))

pub returns-in_err-fitted : goal.returns-in_err-fitted
returns-in_err-fitted c =
    passed _ _ c.from_residual-in_err-fitted.ensures.1 (unless_holds _ _ _ (c.in_ok-assumed.ensures ∙ ap assumed c.is_positive.ensures)
    (calm_stop _ _ (tested_stop _ _ _ _ is_lt (c.in_err-fitted.ensures _ _ c.cmp.ensures))))

pub returns-in_err-assumed-2 : goal.returns-in_err-assumed-2
returns-in_err-assumed-2 c =
    passed _ _ c.from_residual-in_err-assumed-2.ensures.1 (unless_holds _ _ _ (c.in_ok-assumed.ensures ∙ ap assumed c.is_positive.ensures)
    (calm_then _ (tested_value _ _ _ _ is_lt (c.in_ok-fitted.ensures _ _ c.cmp.ensures)) (unless_fails _ _ _ (c.in_err-assumed-2.ensures ∙ ap assumed c.is_lt.ensures))))

pub returns-in_err-rest : goal.returns-in_err-rest
returns-in_err-rest c =
    passed _ _ c.from_residual-in_err-rest.ensures.1 (unless_holds _ _ _ (c.in_ok-assumed.ensures ∙ ap assumed c.is_positive.ensures)
    (calm_then _ (tested_value _ _ _ _ is_lt (c.in_ok-fitted.ensures _ _ c.cmp.ensures)) (unless_holds _ _ _ (c.in_ok-assumed-2.ensures ∙ ap assumed c.is_lt.ensures)
    (calm_stop _ _ (c.in_err-rest.ensures _ _ c.sub.ensures)))))

pub returns : goal.returns
returns c =
    unless_holds _ _ _ (c.in_ok-assumed.ensures ∙ ap assumed c.is_positive.ensures)
    (calm_then _ (tested_value _ _ _ _ is_lt (c.in_ok-fitted.ensures _ _ c.cmp.ensures)) (unless_holds _ _ _ (c.in_ok-assumed-2.ensures ∙ ap assumed c.is_lt.ensures)
    (calm_then _ (c.in_ok-rest.ensures _ _ c.sub.ensures) c.hold.ensures)))
