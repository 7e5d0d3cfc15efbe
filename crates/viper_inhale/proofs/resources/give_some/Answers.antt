use Rattle.std.proofs.Common.{ap, ◌∙◌}
use Rattle.viper_eval.specs.Steps.{assumed}
use Rattle.viper_eval.proofs.AnswerLaws.{passed, unless_holds, unless_fails}
use Rattle.viper_inhale.proofs.resources.give_some.Goals as goal

pub returns-in_err-assumed : goal.returns-in_err-assumed
returns-in_err-assumed c = passed _ _ c.from_residual.ensures.1 (unless_fails _ _ _ (c.in_err-assumed.ensures ∙ ap assumed c.is_positive.ensures))

pub returns : goal.returns
returns c = unless_holds _ _ _ (c.in_ok-assumed.ensures ∙ ap assumed c.is_positive.ensures) c.hold_more.ensures
