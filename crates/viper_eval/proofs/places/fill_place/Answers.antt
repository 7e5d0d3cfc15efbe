use Rattle.std.proofs.Common.{refl, sym}
use Rattle.viper_eval.proofs.AnswerLaws.{passed, goes_then, stops_then, calmly, calm_then, calm_stop, if_so, if_not, unless_not, unless_so, stops_with, ends_is}
use Rattle.viper_eval.proofs.places.fill_place.Goals as goal

pub returns-then-is_negative-clause-answers : goal.returns-then-is_negative-clause-answers
returns-then-is_negative-clause-answers c = unless_so _ _ _ (sym c.if-is_negative.ensures) (stops_with _ (rw c.failure.ensures refl))

pub returns-in_err-unit-clause-answers : goal.returns-in_err-unit-clause-answers
returns-in_err-unit-clause-answers c =
    passed _ _ c.from_residual.ensures.1 (unless_not _ _ _ (sym c.if-is_negative.ensures) (if_so _ _ _ (sym c.if-is_none.ensures)
    (calm_stop _ _ c.in_err-unit.ensures)))

pub returns-then-is_none-clause-answers : goal.returns-then-is_none-clause-answers
returns-then-is_none-clause-answers c =
    unless_not _ _ _ (sym c.if-is_negative.ensures) (if_so _ _ _ (sym c.if-is_none.ensures) (calm_then _ c.in_ok-unit.ensures (ends_is _ _ refl)))

pub returns-in_err-value-clause-answers : goal.returns-in_err-value-clause-answers
returns-in_err-value-clause-answers c =
    passed _ _ c.from_residual-in_err-value.ensures.1 (unless_not _ _ _ (sym c.if-is_negative.ensures) (if_not _ _ _ (sym c.if-is_none.ensures)
    (stops_then _ c.in_err-value.ensures.answers)))

pub returns-clause-answers : goal.returns-clause-answers
returns-clause-answers c =
    unless_not _ _ _ (sym c.if-is_negative.ensures) (if_not _ _ _ (sym c.if-is_none.ensures)
    (goes_then _ c.in_ok-value.ensures.answers (calmly _ c.fill_leaf.ensures)))
