use Rattle.std.proofs.Common.{sym, ap, slice_set}
use Rattle.vb_value.specs.Bound.{Bounded}
use Rattle.boogie_tree.specs.Whole.{expr_of}
use Rattle.boogie_meaning.specs.Quantified.{side}
use Rattle.boogie_meaning.specs.Run.{Done}
use Rattle.boogie_run.specs.Runs.{done}
use Rattle.boogie_eval.specs.View.{values_of}
use Rattle.boogie_run.specs.View.{environment_of}
use Rattle.boogie_eval.proofs.AnswerLaws.{same_answers}
use Rattle.boogie_run.proofs.RunStepLaws.{run_passed, end_goes, end_stops}
use Rattle.boogie_run.proofs.replay_steps.assign.Goals as goal

pub returns-in_err-value : goal.returns-in_err-value
returns-in_err-value c cs =
    run_passed _ _ c.from_residual.ensures.1 (end_stops cs (λ x. Done (slice_set (environment_of c.args.env.now) c.args.number x) cs)
    (same_answers (ap (λ xs. side Bounded (expr_of c.args.e.now) (values_of xs)) (sym c.deref.ensures.value)) c.in_err-value.ensures))

pub returns : goal.returns
returns c cs =
    end_goes cs (λ x. Done (slice_set (environment_of c.args.env.now) c.args.number x) cs)
    (same_answers (ap (λ xs. side Bounded (expr_of c.args.e.now) (values_of xs)) (sym c.deref.ensures.value)) c.in_ok-value.ensures) (done (ap (λ xs. Done xs cs) (sym c.set.ensures)))
