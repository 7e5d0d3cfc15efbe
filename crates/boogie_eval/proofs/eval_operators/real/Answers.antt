use Rattle.std.proofs.Common.{refl, sym, ◌∙◌}
use Rattle.boogie_tree.specs.Value as v
use Rattle.boogie_tree.specs.Whole.{scalar_of}
use Rattle.boogie_eval.proofs.AnswerLaws.{fitted_is, fitted_over}
use Rattle.boogie_eval.proofs.eval_operators.real.Goals as goal

pub returns-in-Ok : goal.returns-in-Ok
returns-in-Ok c fits n h = fitted_is scalar_of v.Real fits n _ _ (sym c.in-Ok.is ∙ h) refl

pub returns-in-Err : goal.returns-in-Err
returns-in-Err c fits n h = fitted_over scalar_of v.Real fits n _ (sym c.in-Err.is ∙ h)
