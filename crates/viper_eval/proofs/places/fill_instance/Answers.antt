use Rattle.std.proofs.Common.{refl, sym}
use Rattle.viper_eval.proofs.AnswerLaws.{passed, calm_then, calm_stop, if_so, if_not, unless_not, unless_so, stops_with, ends_is}
use Rattle.viper_eval.proofs.places.fill_instance.Goals as goal

pub returns-then-is_negative : goal.returns-then-is_negative
returns-then-is_negative c = unless_so _ _ _ (sym c.if-is_negative.ensures) (stops_with _ (rw c.failure.ensures refl))

pub returns-in_err-unit : goal.returns-in_err-unit
returns-in_err-unit c =
    passed _ _ c.from_residual.ensures.1 (unless_not _ _ _ (sym c.if-is_negative.ensures) (if_so _ _ _ (sym c.if-is_none.ensures)
    (calm_stop _ _ c.in_err-unit.ensures)))

pub returns-then-is_none : goal.returns-then-is_none
returns-then-is_none c =
    unless_not _ _ _ (sym c.if-is_negative.ensures) (if_so _ _ _ (sym c.if-is_none.ensures) (calm_then _ c.in_ok-unit.ensures (ends_is _ _ refl)))

pub returns : goal.returns
returns c = unless_not _ _ _ (sym c.if-is_negative.ensures) (if_not _ _ _ (sym c.if-is_none.ensures) c.fill_held.ensures)
