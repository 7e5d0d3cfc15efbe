use Rattle.std.proofs.Common.{refl, sym, ap, ◌∙◌, subst}
use Rattle.viper_core.specs.View.{assertion_of}
use Rattle.viper_state.specs.View.{state_of}
use Rattle.viper_state.specs.Within.{IsWithinScene}
use Rattle.viper_meaning.specs.Ends.{found}
use Rattle.viper_eval.specs.View.{lent}
use Rattle.viper_eval.proofs.AnswerLaws.{calmly, found_as, found_as_stops}
use Rattle.viper_eval.proofs.WithinLaws.{scene_within}
use Rattle.viper_inhale.proofs.DoesLaws.{passed}
use Rattle.viper_inhale.proofs.FormLaws.{part_stops, part_goes, calm_stops, calm_goes}
use Rattle.viper_fold.proofs.FoldLaws.{found_is, folded_as}
use Rattle.viper_fold.proofs.folding.fold_at.Goals as goal

pub returns-in_err-key : goal.returns-in_err-key
returns-in_err-key c = passed _ _ c.from_residual.ensures.1 (part_stops _ refl (calmly _ c.in_err-key.ensures) refl)

pub returns-in_err-body : goal.returns-in_err-body
returns-in_err-body c =
    passed _ _ c.from_residual-in_err-body.ensures.1 (part_goes _ refl (calmly _ c.in_ok-key.ensures) refl
    (calm_stops _ refl _ (found_as_stops (λ b. assertion_of b.now) _ _ c.in_err-body.ensures ∙ ap found c.body_of.ensures)))

pub returns-in_err-amount : goal.returns-in_err-amount
returns-in_err-amount c =
    passed _ _ c.from_residual-in_err-amount.ensures.1 (part_goes _ refl (calmly _ c.in_ok-key.ensures) refl
    (calm_goes _ refl (found_as (λ b. assertion_of b.now) _ _ c.in_ok-body.ensures ∙ ap found c.body_of.ensures) (calm_stops _ refl _ c.in_err-amount.ensures)))

pub fold_by-requires-clause-body_within : goal.fold_by-requires-clause-body_within
fold_by-requires-clause-body_within c = c.requires.body_within _ (found_is _ _ (found_as (λ b. assertion_of b.now) _ _ c.in_ok-body.ensures ∙ ap found c.body_of.ensures))

pub fold_by-requires-clause-scene_within : goal.fold_by-requires-clause-scene_within
fold_by-requires-clause-scene_within c = subst IsWithinScene (sym c.with_variables-scene.ensures) (scene_within c.args.values.args.now (lent c.args.scene) c.requires.args_within c.requires.scene_within)

pub fold_by-requires-clause-whole : goal.fold_by-requires-clause-whole
fold_by-requires-clause-whole c = ap (λ s. s.scale) c.of-share.ensures ∙ c.write.ensures

pub returns : goal.returns
returns c =
    part_goes _ refl (calmly _ c.in_ok-key.ensures) refl
    (calm_goes _ refl (found_as (λ b. assertion_of b.now) _ _ c.in_ok-body.ensures ∙ ap found c.body_of.ensures) (calm_goes _ refl c.in_ok-amount.ensures
    (folded_as (assertion_of c.in_ok-body.body.now) (state_of c.args.state.now) c.with_variables-scene.ensures c.of-instance.ensures c.of-share.ensures c.fold_by.ensures)))
