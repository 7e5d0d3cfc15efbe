use Rattle.std.proofs.Common.{refl, sym}
use Rattle.viper_eval.proofs.AnswerLaws.{unless_not, unless_so, if_so, if_not, stops_with, ends_is}
use Rattle.viper_inhale.proofs.resources.give.Goals as goal

pub returns-then-is_negative : goal.returns-then-is_negative
returns-then-is_negative c = unless_so _ _ _ (sym c.if-is_negative.ensures) (stops_with _ (rw c.failure.ensures refl))

pub returns-then-is_none : goal.returns-then-is_none
returns-then-is_none c = unless_not _ _ _ (sym c.if-is_negative.ensures) (if_so _ _ _ (sym c.if-is_none.ensures) (ends_is _ _ refl))

pub returns : goal.returns
returns c = unless_not _ _ _ (sym c.if-is_negative.ensures) (if_not _ _ _ (sym c.if-is_none.ensures) c.hold_more.ensures)
