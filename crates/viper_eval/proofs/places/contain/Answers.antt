use Rattle.std.proofs.Common.{refl, sym, ap, ◌∙◌}
use Rattle.vb_value.specs.View.{content_of}
use Rattle.viper_state.specs.State.{with_content}
use Rattle.viper_state.specs.View.{state_of}
use Rattle.viper_meaning.specs.Ends.{found}
use Rattle.viper_eval.proofs.AnswerLaws.{passed, if_so, if_not, calm_then, calm_stop, found_as, found_as_stops, unless_holds, unless_fails, ends_is}
use Rattle.viper_eval.specs.Answers.{no_memory}
use Rattle.viper_eval.specs.Steps.{assumed}
use Rattle.viper_eval.proofs.places.contain.Goals as goal

pub returns-in_err-key : goal.returns-in_err-key
returns-in_err-key c = passed _ _ c.from_residual.ensures.1 no_memory

pub returns-in_err-copy : goal.returns-in_err-copy
returns-in_err-copy c = passed _ _ c.from_residual-in_err-copy.ensures.1 no_memory

pub returns-in_err-set_content : goal.returns-in_err-set_content
returns-in_err-set_content c = passed _ _ c.from_residual-in_err-set_content.ensures.1 no_memory

pub returns-then-is_none : goal.returns-then-is_none
returns-then-is_none c =
    let s = state_of c.args.state.now in
    let p = c.args.instance.now.predicate in
    if_so _ _ _ (sym c.if-is_none.ensures) (ends_is _ _ (c.in_ok-set_content.ensures.changed ∙ ap (λ k. with_content s p k (content_of c.in_ok-copy.field-0)) c.in_ok-key.ensures.cases
    ∙ ap (λ d. with_content s p c.args.instance.now.key d) c.in_ok-copy.ensures))

pub returns-in_err-old : goal.returns-in_err-old
returns-in_err-old c =
    passed _ _ c.from_residual-in_err-old.ensures.1 (if_not _ _ _ (sym c.if-is_none.ensures)
    (calm_stop _ _ (found_as_stops (λ d. content_of d.now) _ _ c.in_err-old.ensures ∙ ap found c.content_at.ensures)))

pub returns-in_err-assumed : goal.returns-in_err-assumed
returns-in_err-assumed c =
    passed _ _ c.from_residual-in_err-assumed.ensures.1 (if_not _ _ _ (sym c.if-is_none.ensures)
    (calm_then _ (found_as (λ d. content_of d.now) _ _ c.in_ok-old.ensures ∙ ap found c.content_at.ensures)
    (unless_fails _ _ _ (c.in_err-assumed.ensures ∙ ap assumed c.same.ensures.value))))

pub returns : goal.returns
returns c =
    if_not _ _ _ (sym c.if-is_none.ensures) (calm_then _ (found_as (λ d. content_of d.now) _ _ c.in_ok-old.ensures ∙ ap found c.content_at.ensures)
    (unless_holds _ _ _ (c.in_ok-assumed.ensures ∙ ap assumed c.same.ensures.value) (ends_is _ _ refl)))
