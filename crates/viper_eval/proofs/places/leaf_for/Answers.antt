use Rattle.std.proofs.Common.{arith, refl, sym, ap, not, ◌∙◌, ◌++◌, ◌∷◌, [], map, ◌==◌, ◌≡◌, true, false}
use Rattle.viper_state.specs.Event as event
use Rattle.viper_state.specs.View.{event_of}
use Rattle.viper_meaning.specs.Ends.{found}
use Rattle.viper_eval.proofs.AnswerLaws.{passed, calm_then, calm_stop, unless_not, unless_so, stops_with, recorded_then, ends_is}
use Rattle.viper_eval.specs.Answers.{no_memory}
use Rattle.viper_eval.proofs.places.leaf_for.Goals as goal

pub returns-then-place-eq0-clause-answers : goal.returns-then-place-eq0-clause-answers
returns-then-place-eq0-clause-answers c =
    let null : (c.args.place.reference == 0) ≡ true = grind arith in unless_so _ _ _ null (stops_with _ refl)

pub returns-in_err-value-clause-answers : goal.returns-in_err-value-clause-answers
returns-in_err-value-clause-answers c =
    let some : (c.args.place.reference == 0) ≡ false = grind arith in
    passed _ _ c.from_residual.ensures.1 (unless_not _ _ _ some (calm_stop _ _ c.in_err-value.ensures))

pub returns-in_err-old-clause-answers : goal.returns-in_err-old-clause-answers
returns-in_err-old-clause-answers c =
    let some : (c.args.place.reference == 0) ≡ false = grind arith in
    passed _ _ c.from_residual-in_err-old.ensures.1 (unless_not _ _ _ some (calm_then _ c.in_ok-value.ensures
    (calm_stop _ _ (c.in_err-old.ensures ∙ ap found c.value_at.ensures))))

pub returns-then-not-has_type_of-clause-answers : goal.returns-then-not-has_type_of-clause-answers
returns-then-not-has_type_of-clause-answers c =
    let some : (c.args.place.reference == 0) ≡ false = grind arith in
    unless_not _ _ _ some (calm_then _ c.in_ok-value.ensures (calm_then _ (c.in_ok-old.ensures ∙ ap found c.value_at.ensures)
    (unless_so _ _ _ (sym (ap not c.if-not-has_type_of.ensures)) (stops_with _ refl))))

pub returns-in_err-record-clause-answers : goal.returns-in_err-record-clause-answers
returns-in_err-record-clause-answers c = passed _ _ c.from_residual-in_err-record.ensures.1 no_memory

pub returns-clause-answers : goal.returns-clause-answers
returns-clause-answers c =
    let some : (c.args.place.reference == 0) ≡ false = grind arith in
    unless_not _ _ _ some (calm_then _ c.in_ok-value.ensures (calm_then _ (c.in_ok-old.ensures ∙ ap found c.value_at.ensures)
    (unless_not _ _ _ (sym (ap not c.if-not-has_type_of.ensures))
    (recorded_then (event.Leaf c.in_ok-value.value) (c.in_ok-record.ensures.events ∙ ap (λ e. map event_of c.args.feed.now.events.items ++ e ∷ []) c.leaf_event.ensures) (ends_is _ _ refl)))))
