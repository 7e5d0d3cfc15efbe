use Rattle.std.proofs.Common.{refl}
use Rattle.viper_eval.proofs.AnswerLaws.{passed, goes_then, stops_then, ends_is}
use Rattle.viper_inhale.proofs.resources.instance.Goals as goal

pub returns-in_err-key-clause-answers : goal.returns-in_err-key-clause-answers
returns-in_err-key-clause-answers c = passed _ _ c.from_residual.ensures.1 (stops_then _ c.in_err-key.ensures.answers)

pub returns-clause-answers : goal.returns-clause-answers
returns-clause-answers c = goes_then _ c.in_ok-key.ensures.answers (ends_is _ _ refl)
