-- What an assertion contains with less permission and with more, and how an instance is folded and unfolded with both.
use Rattle.std.proofs.Common.{◌≡◌, refl, sym, ap, ◌∙◌, subst, ℕ, Option, Some, None, List, [], All}
use Rattle.std.specs.Option.{option_map}
use Rattle.vb_base.specs.declared.places.Pos.{Pos}
use Rattle.vb_value.specs.Bound.{Unbounded}
use Rattle.vb_value.specs.Content.{Leaf, AllValues, IsProperContent}
use Rattle.vb_value.specs.Fraction.{Fraction, IsReduced, is_positive, write}
use Rattle.vb_value.specs.Value.{IsProperValue}
use Rattle.vb_value.specs.declared.values.Value.{Value}
use Rattle.viper_core.specs.Expr as t
use Rattle.viper_core.specs.Formed.{IsTypedProgram, predicate_context}
use Rattle.viper_core.specs.Stmt.{FoldStmt}
use Rattle.viper_core.specs.Typing as typing
use Rattle.viper_core.specs.Typing.{Context, IsAssertion, IsFold}
use Rattle.viper_core.proofs.BodyLaws.{body_has_no_wildcard}
use Rattle.viper_core.proofs.FormedLaws.{predicate_body_of_typed}
use Rattle.viper_core.proofs.LiteralLaws.{exprs_literals, assertion_literals, literals_proper}
use Rattle.viper_state.specs.Choice.{Choice}
use Rattle.viper_state.specs.Fits.{FitsChoice}
use Rattle.viper_state.specs.Run.{Scene, with_variables}
use Rattle.viper_state.specs.State.{Key, State}
use Rattle.viper_state.specs.Within.{IsProperEvent}
use Rattle.viper_meaning.specs.Contents.{contained_at, content_by, content_in, body_of, positive_amount, closed, fold_instance, unfold_instance}
use Rattle.viper_meaning.specs.Ends.{Evaluated, then_with, found}
use Rattle.viper_meaning.specs.Kept.{Keeps}
use Rattle.viper_meaning.specs.Places.{key_of}
use Rattle.viper_meaning.specs.Resource.{Resource, Place, Instance}
use Rattle.viper_meaning.specs.Run.{Run, evaluating}
use Rattle.viper_meaning.specs.Value.{values}
use Rattle.viper_meaning.proofs.AgreeLaws.{failed, blocked, IsSame, is_agrees, after_agrees, then_agrees, then_same, if_agrees}
use Rattle.viper_meaning.proofs.FoldLaws.{body_found}
use Rattle.viper_meaning.proofs.MoreLaws.{ScenesAgree, typed_values_two, typed_opened_two}
use Rattle.viper_meaning.proofs.OpenedLaws.{AreClose, then_proper, found_same, where_holds, taken_two, fill_held_two, content_same, content_proper, amount_is}
use Rattle.viper_meaning.proofs.PartLaws.{IsAmount, amount_write}
use Rattle.viper_meaning.proofs.ReadLaws.{values_proper}
use Rattle.viper_meaning.proofs.StatementKeptLaws.{content_in_proper}
use Rattle.viper_meaning.proofs.UnderLaws.{Rest, Under}
use Rattle.viper_exec_meaning.proofs.SafeLaws.{Leads, together, evaluating_leads, then_leads}
use Rattle.viper_exec_meaning.proofs.KnownLaws.{proper_leads, found_leads}
use Rattle.viper_exec_meaning.proofs.SimpleLaws.{consume_two}
use Rattle.viper_exec_meaning.proofs.TwoLaws.{truth_two, perm_two, place_two, instance_two, perm_reduced}

-- ---- contents

module _ (F : Rest) (c : Context) (typed : IsTypedProgram c.program) (s w : State) (sc sd : Scene) (h : Under F s w) (g : ScenesAgree c sc sd) where
  contained_same : (x : Resource) → contained_at s x ≡ contained_at w x
  contained_same (Place f r) = ap (option_map Leaf) (h.values f r)
  contained_same (Instance p key) = h.contents p key

  content_by_two : {m : t.Amt} → typing.IsAmount c m → (x : Resource) → AreClose IsSame (content_by Unbounded m s sc x) (content_by Unbounded m w sd x)
  content_by_two (typing.amount i) x = then_same (perm_two F c typed s w sc sd h g i) (λ q. if_agrees (is_positive q) (found_same (contained_at s x) (contained_at w x) (contained_same x)) (is_agrees refl))
  content_by_two (typing.wildcard i) x = blocked

  pub content_two : {a : t.Assertion} → IsAssertion c a → AreClose IsSame (content_in Unbounded a s sc) (content_in Unbounded a w sd)
  content_two (typing.fact i) = is_agrees refl
  content_two (typing.access {f = f} i there m) = then_same (place_two F c typed s w sc sd h g f i) (λ x. content_by_two m x)
  content_two (typing.instance {p = p} d there i m) = then_same (instance_two F c typed s w sc sd h g p i) (λ x. content_by_two m x)
  content_two (typing.both i j) = then_same (content_two i) (λ x. then_same (content_two j) (λ y. is_agrees refl))
  content_two (typing.implied i j) = then_same (truth_two F c typed s w sc sd h g i) (λ holds. if_agrees holds (content_two j) (is_agrees refl))
  content_two (typing.chosen i j k) = then_same (truth_two F c typed s w sc sd h g i) (λ holds. if_agrees holds (content_two j) (content_two k))

  -- ---- the end of a fold

  closed_two : {a : t.Assertion} → IsAssertion c a → (p : ℕ) (key : Key) (q : Fraction) (at : Pos) → IsAmount q → (left other : State) → Under F left other →
      AreClose (Under F) (closed Unbounded a s sc p key q at left) (closed Unbounded a w sd p key q at other)
  closed_two {a} i p key q at amount left other l =
      then_proper (AllValues (IsProperValue Unbounded)) (content_two i) (content_in_proper Unbounded a s sc (assertion_literals _ _ (literals_proper Unbounded) c typed i) h.less.whole.proper g.proper) (λ d proper.
      after_agrees [] [] (fill_held_two F write p key q d at amount_write amount (record { values = proper; small = tt }) l))

-- ---- fold and unfold

positive_two : (sc sd : Scene) (at : Pos) (q : Fraction) → IsReduced q → AreClose (λ x y. (x ≡ y) × IsAmount x) (positive_amount sc at q) (positive_amount sd at q)
positive_two sc sd at q reduced = where_holds (is_positive q) failed (λ positive. is_agrees (refl, amount_is q reduced positive))

amount_leads : {C : Choice → Type 0} {Z W : Type 0} {S : Z → W → Type 0} {e f : Evaluated Fraction} {go : Fraction → Run Z} {to : Fraction → Run W} → AreClose (λ x y. (x ≡ y) × IsAmount x) e f →
    ((x : Fraction) → IsAmount x → Leads C S (go x) (to x)) → Leads C S (evaluating e go) (evaluating f to)
amount_leads {C} {S = S} {go = go} {to = to} h g = evaluating_leads h (λ x y same. subst (λ z. Leads C S (go x) (to z)) same.0 (g x same.1))

module _ (F : Rest) (c : Context) (typed : IsTypedProgram c.program) (s w : State) (sc sd : Scene) (h : Under F s w) (g : ScenesAgree c sc sd) (f : FoldStmt) (i : IsFold c f) where
  -- the body is read with the arguments, and says nothing of the old state
  body_scenes : (vs : List Value) → All (IsProperValue Unbounded) vs → ScenesAgree (predicate_context c.program i.predicate) (with_variables vs sc) (with_variables vs sd)
  body_scenes vs proper = record { proper = record { store = proper; old = g.proper.old }; seen = λ x seen. refl; old = λ no. absurd (cc) }

  body_typed : (body : t.Assertion) → body_of c.program f.predicate ≡ Some body → IsAssertion (predicate_context c.program i.predicate) body
  body_typed body e =
      let found : Some i.body ≡ Some body = sym (body_found c f i) ∙ e in
      let same : i.body ≡ body = cc in
      subst (IsAssertion (predicate_context c.program i.predicate)) same (predicate_body_of_typed c.program typed f.predicate i.predicate i.body i.exists i.has_body)

  arguments_proper : Keeps (IsProperEvent Unbounded) (All (IsProperValue Unbounded)) (values Unbounded f.args s sc)
  arguments_proper = values_proper f.args s sc (exprs_literals _ _ (literals_proper Unbounded) c typed i.args) h.less.whole.proper g.proper

  pub fold_two : Leads (FitsChoice c.program.layout) (Under F) (fold_instance Unbounded c.program f s sc) (fold_instance Unbounded c.program f w sd)
  fold_two =
      proper_leads (All (IsProperValue Unbounded)) (typed_values_two F c typed s w sc sd h g i.args) arguments_proper (λ vs in_vs.
      proper_leads IsReduced (perm_two F c typed s w sc sd h g i.amount) (perm_reduced F c typed s w sc sd h g i.amount) (λ q reduced.
      found_leads (key_of vs) (λ key keyed. found_leads (body_of c.program f.predicate) (λ body there. amount_leads (positive_two sc sd f.place q reduced) (λ q amount.
      let inner : ScenesAgree (predicate_context c.program i.predicate) (with_variables vs sc) (with_variables vs sd) = body_scenes vs in_vs in
      let is : IsAssertion (predicate_context c.program i.predicate) body = body_typed body there in
      then_leads (consume_two F (predicate_context c.program i.predicate) typed (with_variables vs sc) (with_variables vs sd) inner q amount s w h is (body_has_no_wildcard c.program i.predicate body is) s w h) (λ left other l.
      together (closed_two F (predicate_context c.program i.predicate) typed s w (with_variables vs sc) (with_variables vs sd) h inner is f.predicate key q f.place amount left other l)))))))

  found_by : {Z W X : Type 0} {S : Z → W → Type 0} (o : Option X) {go : X → Evaluated Z} {to : X → Evaluated W} → ((x : X) → o ≡ Some x → AreClose S (go x) (to x)) → AreClose S (then_with (found o) go) (then_with (found o) to)
  found_by (Some x) k = after_agrees [] [] (k x refl)
  found_by None k = blocked

  pub unfold_two : AreClose (Under F) (unfold_instance Unbounded c.program f s sc) (unfold_instance Unbounded c.program f w sd)
  unfold_two =
      then_proper (All (IsProperValue Unbounded)) (typed_values_two F c typed s w sc sd h g i.args) arguments_proper (λ vs in_vs.
      then_proper IsReduced (perm_two F c typed s w sc sd h g i.amount) (perm_reduced F c typed s w sc sd h g i.amount) (λ q reduced.
      found_by (key_of vs) (λ key keyed. found_by (body_of c.program f.predicate) (λ body there.
      then_agrees (taken_two F sc sd f.predicate key q f.place reduced h) (λ less more under.
      then_proper (IsProperContent Unbounded) (content_same F f.predicate key h) (content_proper {E = IsProperEvent Unbounded} f.predicate key h.less) (λ d proper.
      typed_opened_two F (predicate_context c.program i.predicate) typed less more (with_variables vs sc) (with_variables vs sd) under.0 (body_scenes vs in_vs) d q (body_typed body there) proper (amount_is q reduced under.1)))))))
