use Rattle.std.proofs.Common.{sym, ap}
use Rattle.vb_value.specs.Bound.{Bounded}
use Rattle.boogie_tree.specs.Whole.{expr_of, exprs_of}
use Rattle.boogie_meaning.specs.Quantified.{bvalue, bkey}
use Rattle.boogie_meaning.specs.Run.{with_end, put_value}
use Rattle.boogie_meaning.specs.Value.{the_map}
use Rattle.boogie_eval.specs.View.{values_of}
use Rattle.boogie_run.specs.View.{environment_of}
use Rattle.boogie_eval.proofs.AnswerLaws.{same_answers}
use Rattle.boogie_run.proofs.RunStepLaws.{end_goes}
use Rattle.boogie_run.proofs.replay_steps.put.Goals as goal

pub returns-in-Ok : goal.returns-in-Ok
returns-in-Ok c cs =
    let env = environment_of c.args.env.now in
    end_goes cs (λ k. with_end (bvalue Bounded (expr_of c.args.e.now) env) cs (λ x. with_end (the_map env c.args.number) cs (put_value c.args.number k x env cs))) (same_answers (ap (λ xs. bkey Bounded (exprs_of c.args.es.now) (values_of xs)) (sym c.deref.ensures.value)) c.in-Ok.ensures) (c.put_at.ensures cs)
