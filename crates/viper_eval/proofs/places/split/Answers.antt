use Rattle.std.proofs.Common.{inl, inr, sym, ap, ◌∙◌, ◌++◌, ◌∷◌, [], map}
use Rattle.vb_value.specs.View.{content_of}
use Rattle.viper_state.specs.Event as event
use Rattle.viper_state.specs.View.{event_of}
use Rattle.viper_eval.proofs.AnswerLaws.{passed, split_goes, stops_with}
use Rattle.viper_meaning.specs.Places.{pair_of}
use Rattle.viper_eval.specs.Answers.{no_memory}
use Rattle.viper_eval.proofs.places.split.Goals as goal

pub returns-in_err-copy-in-Pair-clause-answers : goal.returns-in_err-copy-in-Pair-clause-answers
returns-in_err-copy-in-Pair-clause-answers c = passed _ _ c.from_residual.ensures.1 no_memory

pub returns-in_err-copy-in-Pair-2-clause-answers : goal.returns-in_err-copy-in-Pair-2-clause-answers
returns-in_err-copy-in-Pair-2-clause-answers c = passed _ _ c.from_residual-in_err-copy-in-Pair-2.ensures.1 no_memory

pub returns-in_err-record-in-Pair-clause-answers : goal.returns-in_err-record-in-Pair-clause-answers
returns-in_err-record-in-Pair-clause-answers c = passed _ _ c.from_residual-in_err-record-in-Pair.ensures.1 no_memory

pub returns-in_ok-record-in-Pair-clause-answers : goal.returns-in_ok-record-in-Pair-clause-answers
returns-in_ok-record-in-Pair-clause-answers c =
    let left = c.in_ok-copy-in-Pair.ensures ∙ ap content_of c.deref.ensures in
    let right = c.in_ok-copy-in-Pair-2.ensures ∙ ap content_of c.deref-in-Pair.ensures in
    split_goes _ (content_of c.in-Pair.left.value) (content_of c.in-Pair.right.value) (content_of c.args.content.now) (ap content_of c.in-Pair.is)
    (c.in_ok-record-in-Pair.ensures.events ∙ (λ i. map event_of c.args.feed.now.events.items ++ event.Split (left i) (right i) ∷ []))
    (λ i. (content_of (c.deref-in-Pair-2.ensures i), content_of (c.deref-in-Pair-3.ensures i)))

pub returns-in-Unit-clause-answers : goal.returns-in-Unit-clause-answers
returns-in-Unit-clause-answers c =
    elim c.in-Unit.is [
      | inl e ↦ stops_with _ (ap (λ d. pair_of (content_of d)) (sym e))
      | inr p ↦ stops_with _ (ap (λ d. pair_of (content_of d)) (sym p.1))
    ]
