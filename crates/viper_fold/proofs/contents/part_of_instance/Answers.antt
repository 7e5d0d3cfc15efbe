use Rattle.std.proofs.Common.{refl, sym, ap, ◌∙◌}
use Rattle.vb_value.specs.View.{content_of}
use Rattle.viper_meaning.specs.Ends.{is, found}
use Rattle.viper_eval.specs.Answers.{no_memory}
use Rattle.viper_eval.proofs.AnswerLaws.{passed, if_so, if_not, ends_with, ends_is, stops_with, found_as, found_as_stops}
use Rattle.viper_fold.proofs.contents.part_of_instance.Goals as goal

pub returns-in_err-found : goal.returns-in_err-found
returns-in_err-found c =
    passed _ _ c.from_residual.ensures.1 (if_so _ _ _ (sym c.if-is_positive.ensures)
    (stops_with _ (found_as_stops (λ d. content_of d.now) _ _ c.in_err-found.ensures ∙ ap found c.content_at.ensures)))

pub returns-in_err-copy : goal.returns-in_err-copy
returns-in_err-copy c = passed _ _ c.from_residual-in_err-copy.ensures.1 no_memory

pub returns-in_ok-copy : goal.returns-in_ok-copy
returns-in_ok-copy c =
    if_so _ _ _ (sym c.if-is_positive.ensures) (ends_with _ (ap is c.in_ok-copy.ensures ∙ found_as (λ d. content_of d.now) _ _ c.in_ok-found.ensures ∙ ap found c.content_at.ensures))

pub returns-else-is_positive : goal.returns-else-is_positive
returns-else-is_positive c = if_not _ _ _ (sym c.if-is_positive.ensures) (ends_is _ _ refl)
