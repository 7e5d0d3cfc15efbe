use Rattle.std.proofs.Common.{refl, sym, ap, not, ◌∙◌}
use Rattle.std.specs.Ordering.{is_lt}
use Rattle.viper_meaning.specs.Ends.{found}
use Rattle.viper_eval.proofs.AnswerLaws.{passed, calm_then, calm_stop, unless_not, unless_so, stops_with, ends_is, tested_value, tested_stop}
use Rattle.viper_eval.specs.Answers.{no_memory}
use Rattle.viper_eval.proofs.places.take.Goals as goal

pub returns-then-not-is_positive : goal.returns-then-not-is_positive
returns-then-not-is_positive c = unless_so _ _ _ (sym (ap not c.if-not-is_positive.ensures)) (stops_with _ (rw c.failure.ensures refl))

pub returns-in_err-held : goal.returns-in_err-held
returns-in_err-held c =
    passed _ _ c.from_residual.ensures.1 (unless_not _ _ _ (sym (ap not c.if-not-is_positive.ensures)) (calm_stop _ _ (c.in_err-held.ensures ∙ ap found c.amount_at.ensures)))

pub returns-in_err-fitted : goal.returns-in_err-fitted
returns-in_err-fitted c =
    passed _ _ c.from_residual-in_err-fitted.ensures.1 (unless_not _ _ _ (sym (ap not c.if-not-is_positive.ensures)) (calm_then _ (c.in_ok-held.ensures ∙ ap found c.amount_at.ensures)
    (calm_stop _ _ (tested_stop _ _ _ _ is_lt (c.in_err-fitted.ensures _ _ c.cmp.ensures)))))

pub returns-in_err-set_amount : goal.returns-in_err-set_amount
returns-in_err-set_amount c = passed _ _ c.from_residual-in_err-set_amount.ensures.1 no_memory

pub returns : goal.returns
returns c =
    unless_not _ _ _ (sym (ap not c.if-not-is_positive.ensures)) (calm_then _ (c.in_ok-held.ensures ∙ ap found c.amount_at.ensures)
    (calm_then _ (tested_value _ _ _ _ is_lt (c.in_ok-fitted.ensures _ _ c.cmp.ensures)) (unless_not _ _ _ (sym c.if-is_lt.ensures)
    (calm_then _ (c.in_ok-left.ensures _ _ c.sub.ensures) (ends_is _ _ c.in_ok-set_amount.ensures.changed)))))

pub returns-then-is_lt : goal.returns-then-is_lt
returns-then-is_lt c =
    unless_not _ _ _ (sym (ap not c.if-not-is_positive.ensures)) (calm_then _ (c.in_ok-held.ensures ∙ ap found c.amount_at.ensures)
    (calm_then _ (tested_value _ _ _ _ is_lt (c.in_ok-fitted.ensures _ _ c.cmp.ensures)) (unless_so _ _ _ (sym c.if-is_lt.ensures) (stops_with _ (rw c.failure-then-is_lt.ensures refl)))))

pub returns-in_err-left : goal.returns-in_err-left
returns-in_err-left c =
    passed _ _ c.from_residual-in_err-left.ensures.1 (unless_not _ _ _ (sym (ap not c.if-not-is_positive.ensures)) (calm_then _ (c.in_ok-held.ensures ∙ ap found c.amount_at.ensures)
    (calm_then _ (tested_value _ _ _ _ is_lt (c.in_ok-fitted.ensures _ _ c.cmp.ensures)) (unless_not _ _ _ (sym c.if-is_lt.ensures)
    (calm_stop _ _ (c.in_err-left.ensures _ _ c.sub.ensures))))))
