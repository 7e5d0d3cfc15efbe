-- Producing in a small state what its whole state asked for: it fails, or the small state gets just the shares that were owed to
-- it, and lies under the whole one still.
use Rattle.std.proofs.Common.{◌≡◌, refl, sym, ap, ◌∙◌, subst, ℕ, Bool, true, false, Option, Some, None, List, [], ◌∷◌, ◌++◌, All, slice_get, append_assoc, append-nil, if◌then◌else◌}
use Rattle.std.proofs.lemmas.Bool.{true≢false}
use Rattle.std.proofs.lemmas.List.Elements.{All-head, All-tail}
use Rattle.std.specs.Option.{option_map}
use Rattle.vb_base.specs.declared.labels.Kind.TheVariants as kind
use Rattle.vb_base.specs.declared.places.Pos.{Pos}
use Rattle.vb_value.specs.Bound.{Unbounded}
use Rattle.vb_value.specs.Fraction.{Fraction, none, write, sum, product, is_negative, is_none}
use Rattle.vb_value.specs.declared.values.Ty.{Ty}
use Rattle.vb_value.specs.declared.values.Ty.TheVariants as ty
use Rattle.vb_value.proofs.OperationLaws.{sum_comm, sum-zero, product-one}
use Rattle.viper_core.specs.Expr as t
use Rattle.viper_core.specs.Formed.{IsFormed}
use Rattle.viper_core.specs.Program.{Predicate}
use Rattle.viper_core.specs.Typing as typing
use Rattle.viper_core.specs.Typing.{Context, HasType, IsAssertion}
use Rattle.viper_state.specs.Choice.{Choice}
use Rattle.viper_state.specs.Fits.{FitsState}
use Rattle.viper_state.specs.Run.{Scene}
use Rattle.viper_state.specs.State.{Key, State}
use Rattle.viper_state.proofs.FitsLaws.{mask_found, amount_found}
use Rattle.viper_meaning.specs.Assertions.{place_in, instance_in, more_held, given_to, produce_amount, produce}
use Rattle.viper_meaning.specs.Ends as m
use Rattle.viper_meaning.specs.Ends.{Evaluated, ends, is, fails, blocks, then_with, found, unless}
use Rattle.viper_meaning.specs.HeldWhole.{HoldsAtMostWhole}
use Rattle.viper_meaning.specs.Places.{added}
use Rattle.viper_meaning.specs.Resource.{Resource, Place, Instance, held_at, with_held, is_null, is_too_much}
use Rattle.viper_meaning.specs.Run.{goes}
use Rattle.viper_meaning.specs.Sat.{Has, Share, is_same}
use Rattle.viper_meaning.specs.Statements.{produce_all}
use Rattle.viper_meaning.specs.Value.{perm_in, ref_in, key_in}
use Rattle.viper_meaning.proofs.AgreeLaws.{is_agrees, after_agrees}
use Rattle.viper_meaning.proofs.ArriveLaws.{same_self, too_much_part}
use Rattle.viper_meaning.proofs.HeldLaws.{held_amount, held_with, same_resource, with_held_values, with_held_contents}
use Rattle.viper_meaning.proofs.MoreLaws.{ScenesAgree}
use Rattle.viper_meaning.proofs.NearLaws.{full_with_held}
use Rattle.viper_meaning.proofs.OpenedLaws.{AreClose}
use Rattle.viper_meaning.proofs.PartLaws.{IsAmount, IsPartOf, amount_sum, part_sum, part_trans, part_some, is_none_itself}
use Rattle.viper_meaning.proofs.TypedLaws.{keys_at}
use Rattle.viper_meaning.proofs.UnderLaws.{Rest, Owes, Under, FramedPart, IsAmountShare, own_part, framed_at}
use Rattle.viper_exec_meaning.proofs.TwoLaws.{truth_two, perm_two, place_two, instance_two}
use Rattle.viper_exec_meaning.proofs.KnownLaws.{then_alone, evaluating_alone}
use Rattle.viper_exec_meaning.proofs.OwedLaws.{owes_under, not_too_much, nothing_of_null}
use Rattle.viper_exec_meaning.proofs.SafeLaws.{Safely, safe_goes, Leads, together, goes_leads, then_leads, leads_safe}
use Rattle.viper_exec_meaning.proofs.Under as under
use Rattle.viper_exec_meaning.proofs.Under.{Asks, AskAll}

-- ---- one share

-- it is added to what is held
framed_step : (y : Resource) (f : Fraction) (share : Share) (more : List Share) (o p : Option Fraction) → FramedPart y f (share ∷ more) o p → FramedPart y f more (option_map (λ h. if is_same y share.of then sum h share.amount else h) o) p
framed_step y f share more (Some a) (Some b) h = h
framed_step y f share more None None h = tt
framed_step y f share more (Some a) None h = absurd h
framed_step y f share more None (Some b) h = absurd h

module _ (F : Rest) (s w : State) (x : Resource) (q : Fraction) (more : List Share) (h : Owes F (record { of = x; amount = q } ∷ more) s w) where
  owed : IsAmount q
  owed = All-head IsAmountShare (record { of = x; amount = q }) more h.amounts

  -- where it is nothing
  owes_none : q ≡ none → Owes F more s w
  owes_none e = record {
    less = h.less;
    more = h.more;
    values = h.values;
    contents = h.contents;
    held = λ y. subst (λ o. FramedPart y (F.held y) more o (held_at w y)) (at_resource (held_at s y) (is_same y x) (held_amount h.less.whole y)) (framed_step y (F.held y) (record { of = x; amount = q }) more (held_at s y) (held_at w y) (h.held y));
    amounts = All-tail IsAmountShare (record { of = x; amount = q }) more h.amounts;
    kept_values = h.kept_values;
    kept_contents = h.kept_contents;
  }
    where
      at_resource : (o : Option Fraction) (b : Bool) → ((p : Fraction) → o ≡ Some p → IsAmount p) → option_map (λ h. if b then sum h q else h) o ≡ o
      at_resource None b g = refl
      at_resource (Some h) false g = refl
      at_resource (Some h) true g = ap Some (ap (sum h) e ∙ sum-zero h (g h refl).reduced)

  -- where it is held from then on
  owes_next : (a : Fraction) → held_at s x ≡ Some a → Owes F more (with_held s x (sum a q)) w
  owes_next a e = record {
    less = full_with_held h.less x (sum a q) (amount_sum (held_amount h.less.whole x a e) owed);
    more = h.more;
    values = λ f r. with_held_values s x (sum a q) f r ∙ h.values f r;
    contents = λ p k. with_held_contents s x (sum a q) p k ∙ h.contents p k;
    held = λ y. subst (λ o. FramedPart y (F.held y) more o (held_at w y)) (at_resource (held_at s y) (is_same y x) (λ same. ap (held_at s) (same_resource y x same) ∙ e) ∙ sym (held_with h.less.whole x (sum a q) y))
        (framed_step y (F.held y) (record { of = x; amount = q }) more (held_at s y) (held_at w y) (h.held y));
    amounts = All-tail IsAmountShare (record { of = x; amount = q }) more h.amounts;
    kept_values = h.kept_values;
    kept_contents = h.kept_contents;
  }
    where
      at_resource : (o : Option Fraction) (b : Bool) → (b ≡ true → o ≡ Some a) → option_map (λ h. if b then sum h q else h) o ≡ option_map (λ h. if b then sum a q else h) o
      at_resource None b g = refl
      at_resource (Some h) false g = refl
      at_resource (Some h) true g =
          let there : Some h ≡ Some a = g refl in
          let equal : h ≡ a = cc in
          ap (λ z. Some (sum z q)) equal

  module _ (most : HoldsAtMostWhole w) (a b : Fraction) (e : held_at s x ≡ Some a) (g : held_at w x ≡ Some b) where
    together_part : IsPartOf (sum a q) b
    together_part =
        let now : held_at (with_held s x (sum a q)) x ≡ Some (sum a q) = held_with h.less.whole x (sum a q) x ∙ ap (option_map (λ h. if is_same x x then sum a q else h)) e ∙ ap (λ same. Some (if same then sum a q else a)) (same_self x) in
        own_part (framed_at (owes_under (owes_next a e)) x (sum a q) b now g)

    small_enough : is_too_much x (sum a q) ≡ false
    small_enough = too_much_part x together_part (not_too_much w most x b g)

    -- of null nothing is held, and so nothing is owed
    no_null : is_none q ≡ false → is_null x ≡ true → ⊥
    no_null some null =
        let in_sum : IsPartOf q (sum a q) = subst (IsPartOf q) (sum_comm q a) (part_sum owed (held_amount h.less.whole x a e)) in
        true≢false (sym (nothing_of_null w most x b g null) ∙ part_some (part_trans in_sum together_part) some)

  module _ (sc : Scene) (at : Pos) (most : HoldsAtMostWhole w) (b : Fraction) (there : held_at w x ≡ Some b) where
    held_alone : is_none q ≡ false → (a : Fraction) → held_at s x ≡ Some a → AreClose (λ u v. Owes F more u w) (then_with (added Unbounded a write q at) (λ all. unless (is_too_much x all) blocks (is (with_held s x all)))) (is w)
    held_alone some a e = after_agrees [] [] (by (product write q) (sym (product-one q owed.reduced)))
      where
        not_much : (c : Bool) → c ≡ false → AreClose (λ u v. Owes F more u w) (unless c blocks (is (with_held s x (sum a q)))) (is w)
        not_much true f = absurd (true≢false f)
        not_much false f = is_agrees (owes_next a e)

        by : (p : Fraction) → q ≡ p → AreClose (λ u v. Owes F more u w) (unless (is_too_much x (sum a p)) blocks (is (with_held s x (sum a p)))) (is w)
        by p same = subst (λ p. AreClose (λ u v. Owes F more u w) (unless (is_too_much x (sum a p)) blocks (is (with_held s x (sum a p)))) (is w)) same (not_much (is_too_much x (sum a q)) (small_enough most a b e there))

    more_alone : is_none q ≡ false → AreClose (λ u v. Owes F more u w) (more_held Unbounded write x at s q) (is w)
    more_alone some = by (held_at s x) refl (is_null x) refl
      where
        by : (o : Option Fraction) → held_at s x ≡ o → (c : Bool) → is_null x ≡ c →
            AreClose (λ u v. Owes F more u w) (unless c blocks (then_with (found o) (λ held. then_with (added Unbounded held write q at) (λ all. unless (is_too_much x all) blocks (is (with_held s x all)))))) (is w)
        by (Some a) e true null = absurd (no_null most a b e there some null)
        by (Some a) e false null = after_agrees [] [] (held_alone some a e)
        by None e c null = absurd (subst (λ o. FramedPart x (F.held x) (record { of = x; amount = q } ∷ more) None o) there (subst (λ o. FramedPart x (F.held x) (record { of = x; amount = q } ∷ more) o (held_at w x)) e (h.held x)))

    given_alone : AreClose (λ u v. Owes F more u w) (given_to Unbounded sc write x at s q) (is w)
    given_alone = by_sign (is_negative q) owed.not_negative
      where
        some_or_none : (c : Bool) → is_none q ≡ c → AreClose (λ u v. Owes F more u w) (if c then is s else more_held Unbounded write x at s q) (is w)
        some_or_none true e = is_agrees (owes_none (is_none_itself q owed.reduced e))
        some_or_none false e = more_alone e

        by_sign : (c : Bool) → c ≡ false → AreClose (λ u v. Owes F more u w) (unless c (fails sc at kind.Negative) (if is_none q then is s else more_held Unbounded write x at s q)) (is w)
        by_sign true e = absurd (true≢false e)
        by_sign false e = some_or_none (is_none q) refl

-- ---- what an accessibility predicate speaks of is there

place_is : (e : Evaluated ℕ) (f : ℕ) (x : Resource) → Has x (then_with e (λ r. is (Place f r))) → (r : ℕ) × (Place f r ≡ x)
place_is (ends es (m.Is r)) f x has = (r, cc)
place_is (ends es (m.Fails l)) f x has = cc
place_is (ends es m.Blocked) f x has = cc
place_is (ends es (m.Over at)) f x has = cc

instance_is : (e : Evaluated Key) (p : ℕ) (x : Resource) → Has x (then_with e (λ key. is (Instance p key))) → (key : Key) × (Instance p key ≡ x)
instance_is (ends es (m.Is key)) p x has = (key, cc)
instance_is (ends es (m.Fails l)) p x has = cc
instance_is (ends es m.Blocked) p x has = cc
instance_is (ends es (m.Over at)) p x has = cc

module _ (c : Context) (formed : IsFormed c.program) (w : State) (fits : FitsState c.program.layout w) (sd : Scene) where
  place_there : (e : t.Expr) (f : ℕ) (u : Ty) (x : Resource) → slice_get c.program.layout.fields f ≡ Some u → Has x (place_in Unbounded e f w sd) → (q : Fraction) × (held_at w x ≡ Some q)
  place_there e f u x there has =
      let is_place = place_is (ref_in Unbounded e w sd) f x has in
      let here = mask_found fits f is_place.0 u there in
      (here.0, subst (λ y. held_at w y ≡ Some here.0) is_place.1 here.1.0)

  instance_there : (p : ℕ) (args : t.Exprs) (d : Predicate) (x : Resource) → slice_get c.program.predicates p ≡ Some d → Has x (instance_in Unbounded p args w sd) → (q : Fraction) × (held_at w x ≡ Some q)
  instance_there p args d x there has =
      let is_instance = instance_is (key_in Unbounded args w sd) p x has in
      let here = amount_found fits p is_instance.0 d.params (keys_at c formed p d there) in
      (here.0, subst (λ y. held_at w y ≡ Some here.0) is_instance.1 here.1.0)

-- ---- assertions

module _ (F : Rest) (c : Context) (formed : IsFormed c.program) (w : State) (fits : FitsState c.program.layout w) (most : HoldsAtMostWhole w) (sc sd : Scene) (g : ScenesAgree c sc sd) where
  amount_alone : {C : Choice → Type 0} {e : t.Expr} (at : Pos) (x : Resource) (q : Fraction) (s : State) (more : List Share) → HasType c e ty.Perm → Has q (perm_in Unbounded e w sd) → (b : Fraction) × (held_at w x ≡ Some b) →
      Owes F (record { of = x; amount = q } ∷ more) s w → Leads C (λ u v. Owes F more u w) (produce_amount Unbounded (t.Is e) sc write at s x) (goes w)
  amount_alone at x q s more i has there h =
      together (then_alone (given_to Unbounded sc write x at s) q (perm_two F c formed.typed s w sc sd (owes_under h) g i) has (given_alone F s w x q more h sc at most there.0 there.1))

  pub produce_one : {C : Choice → Type 0} {a : t.Assertion} {xs : List Share} → IsAssertion c a → Asks w sd a xs → (s : State) (more : List Share) → Owes F (xs ++ more) s w → Leads C (λ u v. Owes F more u w) (produce Unbounded a sc write s) (goes w)
  produce_one (typing.fact i) (under.fact has) s more h =
      together (then_alone (λ holds. if holds then is s else blocks) true (truth_two F c formed.typed s w sc sd (owes_under h) g i) has (is_agrees h))
  produce_one (typing.access {a = e} {f = f} {at = at} {u = u} i there (typing.amount j)) (under.place {x = x} {q = q} has of sign) s more h =
      evaluating_alone _ x (place_two F c formed.typed s w sc sd (owes_under h) g f i) has (amount_alone at x q s more j of (place_there c formed w fits sd e f u x there has) h)
  produce_one (typing.access i there (typing.wildcard outside)) asks s more h = elim asks [ ]
  produce_one (typing.instance {p = p} {args = args} {at = at} d there i (typing.amount j)) (under.instance {x = x} {q = q} has of sign) s more h =
      evaluating_alone _ x (instance_two F c formed.typed s w sc sd (owes_under h) g p i) has (amount_alone at x q s more j of (instance_there c formed w fits sd p args d x there has) h)
  produce_one (typing.instance d there i (typing.wildcard outside)) asks s more h = elim asks [ ]
  produce_one (typing.both i j) (under.both {xs = xs} {ys = ys} p q) s more h =
      then_leads (produce_one i p s (ys ++ more) (subst (λ zs. Owes F zs s w) (append_assoc xs ys more) h)) (λ u v r. produce_one j q u more r)
  produce_one (typing.implied i j) (under.counts has p) s more h = evaluating_alone _ true (truth_two F c formed.typed s w sc sd (owes_under h) g i) has (produce_one j p s more h)
  produce_one (typing.implied i j) (under.does_not_count has) s more h = evaluating_alone _ false (truth_two F c formed.typed s w sc sd (owes_under h) g i) has (goes_leads h)
  produce_one (typing.chosen i j k) (under.first has p) s more h = evaluating_alone _ true (truth_two F c formed.typed s w sc sd (owes_under h) g i) has (produce_one j p s more h)
  produce_one (typing.chosen i j k) (under.second has p) s more h = evaluating_alone _ false (truth_two F c formed.typed s w sc sd (owes_under h) g i) has (produce_one k p s more h)

  -- ---- clauses

  pub produce_each : {C : Choice → Type 0} {clauses : List t.Assertion} {xs : List Share} → All (IsAssertion c) clauses → AskAll w sd clauses xs → (s : State) (more : List Share) → Owes F (xs ++ more) s w →
      Leads C (λ u v. Owes F more u w) (produce_all Unbounded clauses sc s) (goes w)
  produce_each i under.no_clause s more h = goes_leads h
  produce_each i (under.clause {a = a} {rest = rest} {xs = xs} {ys = ys} p q) s more h =
      then_leads (produce_one (All-head (IsAssertion c) a rest i) p s (ys ++ more) (subst (λ zs. Owes F zs s w) (append_assoc xs ys more) h)) (λ u v r. produce_each (All-tail (IsAssertion c) a rest i) q u more r)

  -- all that is owed
  pub produce_under : {C : Choice → Type 0} {clauses : List t.Assertion} {xs : List Share} → All (IsAssertion c) clauses → AskAll w sd clauses xs → (s : State) → Owes F xs s w → Leads C (λ u v. Under F u w) (produce_all Unbounded clauses sc s) (goes w)
  produce_under {xs = xs} i p s h = produce_each i p s [] (subst (λ zs. Owes F zs s w) (sym (append-nil xs)) h)

  -- and a modular run goes on with it
  pub produced_under : {C : Choice → Type 0} {P : State → Type 0} {clauses : List t.Assertion} {xs : List Share} → All (IsAssertion c) clauses → AskAll w sd clauses xs → (s : State) → Owes F xs s w → Safely C P (produce_all Unbounded clauses sc s) →
      (u : State) × Under F u w × P u
  produced_under i p s h goes_on = let there = safe_goes (leads_safe (produce_under i p s h) goes_on) in (there.0, there.2, there.1)
