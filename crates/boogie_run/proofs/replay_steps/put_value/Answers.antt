use Rattle.std.proofs.Common.{sym, ap, ◌∙◌, slice_set}
use Rattle.boogie_tree.specs.Value.{Many}
use Rattle.boogie_tree.specs.Whole.{scalar_of}
use Rattle.boogie_meaning.specs.Run.{Done, put_value}
use Rattle.boogie_meaning.specs.Value.{the_map}
use Rattle.boogie_run.specs.Runs.{done}
use Rattle.boogie_eval.specs.View.{values_of}
use Rattle.boogie_run.specs.View.{environment_of}
use Rattle.boogie_eval.proofs.AnswerLaws.{same_answers}
use Rattle.boogie_run.proofs.RunStepLaws.{end_goes}
use Rattle.boogie_run.proofs.replay_steps.put_value.Goals as goal

pub returns : goal.returns
returns c cs =
    let env = environment_of c.args.env.now in
    end_goes cs (put_value c.args.number c.args.key (scalar_of c.args.value) env cs) (same_answers (ap (λ xs. the_map (values_of xs) c.args.number) (sym c.deref.ensures.value)) c.in_ok-map.ensures)
    (done (ap (λ xs. Done xs cs) (sym (c.set.ensures ∙ ap (λ n. slice_set env c.args.number (Many n)) c.in_ok-set_at.ensures))))
