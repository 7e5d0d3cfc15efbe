use Rattle.std.proofs.Common.{sym, ◌∙◌, ap, subst, IfOk}
use Rattle.vb_value.specs.Bound.{IsWithin}
use Rattle.vb_value.proofs.BoundLaws.{read_back}
use Rattle.boogie_tree.specs.Value as v
use Rattle.boogie_tree.specs.Whole.{scalar_of}
use Rattle.boogie_eval.proofs.AnswerLaws.{fitted_is, fitted_over}
use Rattle.boogie_eval.proofs.eval_operators.whole.Goals as goal

pub returns-in-Ok : goal.returns-in-Ok
returns-in-Ok c fits n h = fitted_is scalar_of v.Int fits n _ _ (sym c.in-Ok.is ∙ h) (ap v.Int (read_back c.in-Ok.number (subst (λ r. IfOk r IsWithin) c.in-Ok.is c.requires)))

pub returns-in-Err : goal.returns-in-Err
returns-in-Err c fits n h = fitted_over scalar_of v.Int fits n _ (sym c.in-Err.is ∙ h)
