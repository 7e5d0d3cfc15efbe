use Rattle.std.proofs.Common.{refl}
use Rattle.viper_eval.proofs.AnswerLaws.{passed, goes_then, stops_then, ends_is}
use Rattle.viper_inhale.proofs.resources.place.Goals as goal

pub returns-in_err-reference-clause-answers : goal.returns-in_err-reference-clause-answers
returns-in_err-reference-clause-answers c = passed _ _ c.from_residual.ensures.1 (stops_then _ c.in_err-reference.ensures.answers)

pub returns-clause-answers : goal.returns-clause-answers
returns-clause-answers c = goes_then _ c.in_ok-reference.ensures.answers (ends_is _ _ refl)
