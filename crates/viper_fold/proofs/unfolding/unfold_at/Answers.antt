use Rattle.std.proofs.Common.{refl, sym, ap, ◌∙◌, subst}
use Rattle.vb_value.specs.Bound.{Bounded}
use Rattle.vb_value.specs.View.{content_of}
use Rattle.viper_core.specs.View.{assertion_of}
use Rattle.viper_state.specs.View.{state_of}
use Rattle.viper_state.specs.Within.{IsWithinScene}
use Rattle.viper_meaning.specs.Ends.{found}
use Rattle.viper_meaning.specs.Value.{opened}
use Rattle.viper_eval.specs.Answers.{no_memory}
use Rattle.viper_eval.specs.View.{lent}
use Rattle.viper_eval.proofs.AnswerLaws.{passed, same_answers, goes_then, stops_then, calm_then, calm_stop, calmly, found_as, found_as_stops}
use Rattle.viper_eval.proofs.PlaceLaws.{taken_at}
use Rattle.viper_eval.proofs.WithinLaws.{key_is_within, taken_within, scene_within, content_is_within}
use Rattle.viper_fold.proofs.FoldLaws.{found_is}
use Rattle.viper_fold.proofs.unfolding.unfold_at.Goals as goal

pub returns-in_err-key-clause-answers : goal.returns-in_err-key-clause-answers
returns-in_err-key-clause-answers c = passed _ _ c.from_residual.ensures.1 (stops_then _ (calmly _ c.in_err-key.ensures))

pub returns-in_err-body-clause-answers : goal.returns-in_err-body-clause-answers
returns-in_err-body-clause-answers c =
    passed _ _ c.from_residual-in_err-body.ensures.1 (goes_then _ (calmly _ c.in_ok-key.ensures)
    (calm_stop _ _ (found_as_stops (λ b. assertion_of b.now) _ _ c.in_err-body.ensures ∙ ap found c.body_of.ensures)))

pub returns-in_err-content-clause-answers : goal.returns-in_err-content-clause-answers
returns-in_err-content-clause-answers c = passed _ _ c.from_residual-in_err-content.ensures.1 no_memory

pub returns-in_err-take-clause-answers : goal.returns-in_err-take-clause-answers
returns-in_err-take-clause-answers c =
    passed _ _ c.from_residual-in_err-take.ensures.1 (goes_then _ (calmly _ c.in_ok-key.ensures)
    (calm_then _ (found_as (λ b. assertion_of b.now) _ _ c.in_ok-body.ensures ∙ ap found c.body_of.ensures)
    (stops_then _ (calmly _ (taken_at (lent c.args.scene) c.args.values.amount c.args.s.now.place refl c.of-instance.ensures c.in_err-take.ensures)))))

pub returns-in_err-content-2-clause-answers : goal.returns-in_err-content-2-clause-answers
returns-in_err-content-2-clause-answers c =
    passed _ _ c.from_residual-in_err-content-2.ensures.1 (goes_then _ (calmly _ c.in_ok-key.ensures)
    (calm_then _ (found_as (λ b. assertion_of b.now) _ _ c.in_ok-body.ensures ∙ ap found c.body_of.ensures)
    (goes_then _ (calmly _ (taken_at (lent c.args.scene) c.args.values.amount c.args.s.now.place refl c.of-instance.ensures c.in_ok-take.ensures))
    (calm_stop _ _ (found_as_stops content_of _ _ c.in_err-content-2.ensures ∙ ap found c.in_ok-content.ensures)))))

pub open_in-requires-clause-body_within : goal.open_in-requires-clause-body_within
open_in-requires-clause-body_within c = c.requires.body_within _ (found_is _ _ (found_as (λ b. assertion_of b.now) _ _ c.in_ok-body.ensures ∙ ap found c.body_of.ensures))

pub open_in-requires-clause-content_within : goal.open_in-requires-clause-content_within
open_in-requires-clause-content_within c =
    content_is_within (state_of c.args.state.now) c.args.s.now.predicate c.in_ok-key.key c.requires.state_within
    (found_as content_of _ _ c.in_ok-content-2.ensures ∙ ap found c.in_ok-content.ensures)

pub open_in-requires-clause-state_within : goal.open_in-requires-clause-state_within
open_in-requires-clause-state_within c =
    taken_within (λ _. state_of c.take.new.state) (lent c.args.scene) (state_of c.args.state.now) c.args.s.now.predicate c.in_ok-key.key c.args.values.amount c.args.s.now.place c.requires.state_within
    (key_is_within c.args.values.args.now c.requires.args_within c.in_ok-key.ensures)
    (taken_at (lent c.args.scene) c.args.values.amount c.args.s.now.place refl c.of-instance.ensures c.in_ok-take.ensures)

pub open_in-requires-clause-scene_within : goal.open_in-requires-clause-scene_within
open_in-requires-clause-scene_within c = subst IsWithinScene (sym c.with_variables-inside.ensures) (scene_within c.args.values.args.now (lent c.args.scene) c.requires.args_within c.requires.scene_within)

pub returns-clause-answers : goal.returns-clause-answers
returns-clause-answers c =
    goes_then _ (calmly _ c.in_ok-key.ensures) (calm_then _ (found_as (λ b. assertion_of b.now) _ _ c.in_ok-body.ensures ∙ ap found c.body_of.ensures)
    (goes_then _ (calmly _ (taken_at (lent c.args.scene) c.args.values.amount c.args.s.now.place refl c.of-instance.ensures c.in_ok-take.ensures))
    (calm_then _ (found_as content_of _ _ c.in_ok-content-2.ensures ∙ ap found c.in_ok-content.ensures)
    (same_answers (ap (λ inside. opened Bounded (assertion_of c.in_ok-body.body.now) (content_of c.in_ok-content-2.content) (state_of c.take.new.state) inside c.args.values.amount)
    (sym c.with_variables-inside.ensures)) c.open_in.ensures.answers))))
