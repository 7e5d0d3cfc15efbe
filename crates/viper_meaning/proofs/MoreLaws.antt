-- More permission over the same heap and contents changes no value.
use Rattle.std.proofs.Common.{◌≡◌, ◌⊎◌, inl, inr, refl, subst, ℕ, Bool, true, false, Option, Some, None, List, [], Contains, IsTrue, slice_get}
use Rattle.std.proofs.lemmas.List.Elements.{All-nil}
use Rattle.vb_value.specs.Bound.{Unbounded}
use Rattle.vb_value.specs.Content.{Content, IsReducedContent, IsProperContent}
use Rattle.vb_value.specs.Fraction.{Fraction, IsReduced, is_negative}
use Rattle.vb_value.specs.Layout.{Layout}
use Rattle.vb_value.specs.declared.values.Ty.{Ty}
use Rattle.vb_value.proofs.ReducedLaws.{proper_content}
use Rattle.viper_core.specs.Expr as t
use Rattle.viper_core.specs.Formed.{IsTypedProgram, IsFormed}
use Rattle.viper_core.specs.Plain.{AssertionHasNoOld}
use Rattle.viper_core.specs.Typing.{allows_old, Context, HasType, HaveTypes, nothing, also, IsAssertion}
use Rattle.viper_core.proofs.BodyLaws.{OfBodies, body_has_no_old, has_no_old, assertion_has_no_old}
use Rattle.viper_core.proofs.FormedLaws.{predicate_body_of_typed}
use Rattle.viper_core.proofs.LiteralLaws.{typed_literals, assertion_literals, literals_proper}
use Rattle.viper_state.specs.Event.{Event}
use Rattle.viper_state.specs.Fits.{FitsState, FitsScene}
use Rattle.viper_state.specs.Run.{Scene}
use Rattle.viper_state.specs.State.{State}
use Rattle.viper_state.specs.Within.{IsNonnegative, IsProperScene}
use Rattle.viper_state.proofs.ProperLaws.{state_proper, scene_proper}
use Rattle.viper_meaning.specs.Ends.{Evaluated, the_end}
use Rattle.viper_meaning.specs.Compared.{IsNotOver}
use Rattle.viper_meaning.specs.Kept as kept
use Rattle.viper_meaning.specs.Kept.{Keeps}
use Rattle.viper_meaning.specs.More.{Besides, HoldsBeside, KeepsOfRest, AreScenes, EndsWithMore, fails, values, blocks}
use Rattle.viper_meaning.specs.Resource.{Resource, held_at}
use Rattle.viper_meaning.specs.Value as meaning
use Rattle.viper_meaning.specs.Value.{value, opened}
use Rattle.viper_meaning.proofs.AgreeLaws.{failed, over, both, blocked, lost, IsSame, is_agrees, then_same}
use Rattle.viper_meaning.proofs.BoundLaws.{goes_not_over, value_bounded, opened_bounded}
use Rattle.viper_meaning.proofs.HeldLaws.{held_amount}
use Rattle.viper_meaning.proofs.NearLaws.{IsFull, Close}
use Rattle.viper_meaning.proofs.OpenedLaws.{AreClose, OldsAgree, value_two, opened_two}
use Rattle.viper_meaning.proofs.PartLaws.{IsAmount, amount_sum, enough_from_part, part_from_enough}
use Rattle.viper_meaning.proofs.SatLaws.{reduced_heap, reduced_content, held_masks, held_amounts, held_there}
use Rattle.viper_meaning.proofs.SeenLaws.{typed_agrees, assertion_agrees}
use Rattle.viper_meaning.proofs.TypedLaws.{value_fits, opened_fits}
use Rattle.viper_meaning.proofs.UnderLaws as under
use Rattle.viper_meaning.proofs.UnderLaws.{FramedPart, Under, IsAmountShare, framed_at, under_close}

-- ---- states that fit are full

pub full_where_fits : {l : Layout} {s : State} → FitsState l s → IsNonnegative s → IsFull s
full_where_fits {l} {s} h signs = record {
  whole = record { proper = state_proper l s h; nonnegative = signs; mask = held_masks l s h; amount = held_amounts l s h };
  heap = reduced_heap l s h;
  content = reduced_content l s h;
}

-- the rest, with the values and contents that the second state has
abbrev pub rest_in : Besides → State → under.Rest
rest_in rest w = record { held = rest.held; kept = w; amounts = λ x. record { reduced = rest.reduced x; not_negative = rest.not_negative x } }

pub lies_under : {l : Layout} (rest : Besides) {s w : State} → HoldsBeside l rest s w → Under (rest_in rest w) s w
lies_under {l} rest {s} {w} h = record {
  less = less;
  more = more;
  values = h.values;
  contents = h.contents;
  held = λ x. by x (held_at s x) (held_at w x) refl refl;
  amounts = All-nil IsAmountShare;
  kept_values = λ f r e. refl;
  kept_contents = λ p k e. refl;
}
  where
    less : IsFull s
    less = full_where_fits h.less_fits h.less_signs

    more : IsFull w
    more = full_where_fits h.more_fits h.more_signs

    by : (x : Resource) (o p : Option Fraction) → held_at s x ≡ o → held_at w x ≡ p → FramedPart x (rest.held x) [] o p
    by x (Some a) (Some b) e g =
        let besides : IsAmount (rest.held x) = record { reduced = rest.reduced x; not_negative = rest.not_negative x } in
        part_from_enough (amount_sum besides (held_amount less.whole x a e)) (held_amount more.whole x b g) (h.held x a b e g)
    by x None None e g = tt
    by x (Some a) None e g =
        let there = held_there h.less_fits h.more_fits x a e in
        let no : None ≡ Some there.0 = subst (λ z. z ≡ Some there.0) g there.1 in cc
    by x None (Some b) e g =
        let there = held_there h.more_fits h.less_fits x b g in
        let no : None ≡ Some there.0 = subst (λ z. z ≡ Some there.0) e there.1 in cc

pub still_beside : {l : Layout} (rest : Besides) (v : State) {s w : State} → Under (rest_in rest v) s w → FitsState l s → FitsState l w → HoldsBeside l rest s w
still_beside rest v h less more = record {
  less_fits = less;
  more_fits = more;
  less_signs = h.less.whole.nonnegative;
  more_signs = h.more.whole.nonnegative;
  values = h.values;
  contents = h.contents;
  held = λ x p q e g. enough_from_part (framed_at h x p q e g).all;
}

-- ---- what is typed where `old` may not be said has none

bodies_without_old : (c : Context) → IsTypedProgram c.program → OfBodies c AssertionHasNoOld
bodies_without_old c h outside k d body exists has_body = body_has_no_old c.program d body (predicate_body_of_typed c.program h k d body exists has_body)

by_site : {P O : Type 0} (b : Bool) → (b ≡ false → P) → (b ≡ true → O) → P ⊎ O
by_site true f g = inr (g refl)
by_site false f g = inl (f refl)

-- ---- what is typed, in two scenes that agree on what its context sees

pub record ScenesAgree (c : Context) (sc sd : Scene) : Type 0 where
  pub proper : IsProperScene Unbounded sc
  pub seen : (x : ℕ) → Contains c.visible x → slice_get sc.store x ≡ slice_get sd.store x
  pub old : IsTrue (allows_old c.site) → Close sc.old sd.old

module _ (F : under.Rest) (c : Context) (typed : IsTypedProgram c.program) (s w : State) (sc sd : Scene) (h : Under F s w) (g : ScenesAgree c sc sd) where
  olds_agree : allows_old c.site ≡ true → OldsAgree sc sd
  olds_agree allowed = inr (g.old allowed)

  pub typed_value_two : {e : t.Expr} {u : Ty} → HasType c e u → AreClose IsSame (value Unbounded e s sc) (value Unbounded e w sd)
  typed_value_two {e} i =
      value_two F e s w sc sd (typed_literals _ _ (literals_proper Unbounded) c typed i) h g.proper (typed_agrees sc.store sd.store g.seen i)
      (by_site (allows_old c.site) (λ z. has_no_old z (bodies_without_old c typed) i) olds_agree)

  pub typed_values_two : {es : t.Exprs} {us : List Ty} → HaveTypes c es us → AreClose IsSame (meaning.values Unbounded es s sc) (meaning.values Unbounded es w sd)
  typed_values_two nothing = is_agrees refl
  typed_values_two (also i j) = then_same (typed_value_two i) (λ v. then_same (typed_values_two j) (λ vs. is_agrees refl))

  pub typed_opened_two : {a : t.Assertion} (d : Content) (k : Fraction) → IsAssertion c a → IsProperContent Unbounded d → IsAmount k → AreClose (Under F) (opened Unbounded a d s sc k) (opened Unbounded a d w sd k)
  typed_opened_two {a} d k i content scale =
      opened_two F a d s w sc sd k (assertion_literals _ _ (literals_proper Unbounded) c typed i) content h g.proper (assertion_agrees sc.store sd.store g.seen i)
      (by_site (allows_old c.site) (λ z. assertion_has_no_old z (bodies_without_old c typed) i) olds_agree) scale

scenes_agree : (c : Context) (rest : Besides) (sc sd : Scene) → AreScenes c rest sc sd → ScenesAgree c sc sd
scenes_agree c rest sc sd h = record { proper = scene_proper c.program.layout c.vars sc h.less_fits; seen = h.seen; old = λ allowed. under_close (lies_under rest (h.old allowed)) }

-- ---- how both end

compared : {X Y : Type 0} {R S : X → Y → Type 0} {E G : Event → Type 0} {P : X → Type 0} {Q : Y → Type 0} {e : Evaluated X} {f : Evaluated Y} → AreClose R e f → IsNotOver e → Keeps E P e → Keeps G Q f → ((x : X) (y : Y) → R x y → P x → Q y → S x y) →
    EndsWithMore S (the_end e) (the_end f)
compared failed n k j go = fails
compared over n k j go = absurd n
compared (both {x = x} {y = y} r) n (kept.value h p) (kept.value g q) go = values (go x y r p q)
compared blocked n k j go = blocks
compared (lost m) n k j go = blocks

module _ (c : Context) (rest : Besides) (formed : IsFormed c.program) (s w : State) (sc sd : Scene) (h : HoldsBeside c.program.layout rest s w) (g : AreScenes c rest sc sd) (fits : FitsScene c.program.layout c.vars sd) where
  pub values_with_more : (e : t.Expr) (u : Ty) → HasType c e u → EndsWithMore (λ x y. x ≡ y) (the_end (value Unbounded e s sc)) (the_end (value Unbounded e w sd))
  values_with_more e u i =
      compared (typed_value_two (rest_in rest w) c formed.typed s w sc sd (lies_under rest h) (scenes_agree c rest sc sd g) i)
      (goes_not_over (value_bounded e s sc)) (value_fits Unbounded c e u s sc formed i h.less_fits g.less_fits) (value_fits Unbounded c e u w sd formed i h.more_fits fits) (λ x y same p q. same)

  pub opened_with_more : (a : t.Assertion) (d : Content) (k : Fraction) → IsAssertion c a → IsReducedContent d → IsReduced k → is_negative k ≡ false →
      EndsWithMore (λ x y. HoldsBeside c.program.layout rest x y × KeepsOfRest rest w y) (the_end (opened Unbounded a d s sc k)) (the_end (opened Unbounded a d w sd k))
  opened_with_more a d k i content reduced sign =
      compared
      (typed_opened_two (rest_in rest w) c formed.typed s w sc sd (lies_under rest h) (scenes_agree c rest sc sd g) d k i (proper_content d content) (record { reduced = reduced; not_negative = sign }))
      (goes_not_over (opened_bounded a d s sc k)) (opened_fits Unbounded c a d s sc k formed i content h.less_fits g.less_fits reduced) (opened_fits Unbounded c a d w sd k formed i content h.more_fits fits reduced)
      (λ x y r p q. (still_beside rest w r p q, record { values = r.kept_values; contents = r.kept_contents }))
