-- What is asked and made with less permission and with more: clauses that are consumed and produced, what is forgotten, a field that
-- is written, and a new object. The two states lie one under the other, and lie so again after it.
use Rattle.std.proofs.Common.{◌≡◌, refl, sym, ap, ◌∙◌, subst, ℕ, ◌==◌, Bool, true, false, not, Option, Some, None, List, [], ◌∷◌, All, slice_get, if◌then◌else◌}
use Rattle.std.proofs.lemmas.Bool.{true≢false}
use Rattle.std.proofs.lemmas.List.Elements.{All-head, All-tail}
use Rattle.std.specs.Bool.{Decides}
use Rattle.viper_meaning.proofs.ArriveLaws.{too_much_part}
use Rattle.lemmas.proofs.Tests.{true_from_not as negated}
use Rattle.vb_base.specs.declared.places.Pos.{Pos}
use Rattle.vb_value.specs.Bound.{Unbounded}
use Rattle.vb_value.specs.Fraction.{Fraction, IsReduced, is_negative, is_positive, is_none, write, sum}
use Rattle.vb_value.specs.Layout.{Layout}
use Rattle.vb_value.specs.Value.{type_of, same_type, fraction_eq, IsReducedValue, IsProperValue}
use Rattle.vb_value.specs.declared.values.Ty.{Ty}
use Rattle.vb_value.specs.declared.values.Value.{Value}
use Rattle.vb_value.proofs.ReducedLaws.{proper_value}
use Rattle.vb_value.proofs.SignLaws.{positive_not_negative}
use Rattle.viper_core.specs.Expr as t
use Rattle.viper_core.specs.Formed.{IsTypedProgram}
use Rattle.viper_core.specs.Typing as typing
use Rattle.viper_core.specs.Typing.{Context, IsAssertion}
use Rattle.viper_core.specs.Written.{HasNoWildcard}
use Rattle.viper_state.specs.Choice as choice
use Rattle.viper_state.specs.Choice.{Choice}
use Rattle.viper_state.specs.Event as event
use Rattle.viper_state.specs.Fits.{FitsState, FitsMemo, FitsChoice}
use Rattle.viper_state.specs.Run.{Scene}
use Rattle.viper_state.specs.State.{Key, Memo, State, value_at, mask_at, content_at, amount_at, with_value, with_mask}
use Rattle.viper_state.proofs.FitsLaws.{mask_found}
use Rattle.viper_state.proofs.FitsTestLaws.{Decides-fits_memo}
use Rattle.viper_state.proofs.MapLaws.{exact_masks}
use Rattle.viper_meaning.specs.Assertions.{more_held, given_to, some_given_to, produce_amount, produce, consume}
use Rattle.viper_meaning.specs.Ends.{blocks}
use Rattle.viper_meaning.specs.Forgotten.{forgotten, with_memo, memo_in, forget}
use Rattle.viper_meaning.specs.Fresh.{KnowsNothingOf}
use Rattle.viper_meaning.specs.HeldWhole.{HoldsAtMostWhole}
use Rattle.viper_meaning.specs.Resource.{Resource, Place, Instance, held_at, is_null, is_too_much}
use Rattle.viper_meaning.specs.Run.{Run, ended, goes, before, then_do, given, amount_in}
use Rattle.viper_meaning.specs.Statements.{value_in, field_written, is_fresh, created, produce_all, consume_all}
use Rattle.viper_meaning.proofs.AgreeLaws.{failed, blocked, is_agrees, then_agrees, then_same, if_agrees}
use Rattle.viper_meaning.proofs.ForgottenLaws.{forgotten_fits}
use Rattle.viper_meaning.proofs.FreshLaws.{Decides-fresh}
use Rattle.viper_meaning.proofs.HeldLaws.{HeldPart}
use Rattle.viper_meaning.proofs.MoreLaws.{full_where_fits, ScenesAgree}
use Rattle.viper_meaning.proofs.OpenedLaws.{AreClose, then_proper, found_parts, fails_first, where_holds, where_not, blocks_last, added_two}
use Rattle.viper_meaning.proofs.PartLaws.{IsAmount, IsPartOf, is_none_itself, amount_write, part_self, part_some}
use Rattle.viper_meaning.proofs.SatLaws.{held_there}
use Rattle.viper_meaning.proofs.UnderLaws.{Rest, FramedPart, Under, Framed, own_part, no_rest, framed_at, under_near, under_held, under_value}
use Rattle.viper_exec_meaning.proofs.ConsumeLaws.{consume_one, consume_each}
use Rattle.viper_exec_meaning.proofs.KnownLaws.{same_leads, found_leads}
use Rattle.viper_exec_meaning.proofs.LeftLaws.{after_fits, value_new, value_own, content_new, content_own}
use Rattle.viper_exec_meaning.proofs.OwedLaws.{none_and_whole, IsAlone, alone, not_too_much}
use Rattle.viper_exec_meaning.proofs.TwoLaws.{found_two, truth_two, perm_two, place_two, instance_two, perm_reduced}
use Rattle.viper_exec_meaning.proofs.SafeLaws.{weaker_leads, Leads, together, lost_then, answered, goes_leads, before_leads, then_leads, taking_leads, if_leads}

-- ---- amounts

module _ (F : Rest) where
  more_held_two : {s w : State} (scale : Fraction) (x : Resource) (at : Pos) (q : Fraction) → IsAmount scale → IsAmount q → Under F s w → AreClose (Under F) (more_held Unbounded scale x at s q) (more_held Unbounded scale x at w q)
  more_held_two scale x at q i j h =
      where_not (is_null x) blocked (λ there. then_agrees (found_parts F x h) (λ a b parts. then_agrees (added_two (F.held x) a b scale q at parts i j) (λ d e more.
      blocks_last (is_too_much x d) (is_too_much x e) (too_much_part x (own_part more)) (is_agrees (under_held h x d e more)))))

  given_two : {s w : State} (sc sd : Scene) (scale : Fraction) (x : Resource) (at : Pos) (q : Fraction) → IsAmount scale → IsReduced q → Under F s w →
      AreClose (Under F) (given_to Unbounded sc scale x at s q) (given_to Unbounded sd scale x at w q)
  given_two sc sd scale x at q i j h =
      where_not (is_negative q) failed (λ sign. if_agrees (is_none q) (is_agrees h) (more_held_two scale x at q i (record { reduced = j; not_negative = sign }) h))

  some_given_two : {s w : State} (scale : Fraction) (x : Resource) (at : Pos) (q : Fraction) → IsAmount scale → IsReduced q → Under F s w →
      AreClose (Under F) (some_given_to Unbounded scale x at s q) (some_given_to Unbounded scale x at w q)
  some_given_two scale x at q i j h = where_holds (is_positive q) blocked (λ positive. more_held_two scale x at q i (record { reduced = j; not_negative = positive_not_negative q positive }) h)

-- ---- clauses

module _ (F : Rest) (c : Context) (typed : IsTypedProgram c.program) (sc sd : Scene) (g : ScenesAgree c sc sd) where
  abbrev Leading : Run State → Run State → Type 0
  Leading r u = Leads (FitsChoice c.program.layout) (Under F) r u

  module _ (scale : Fraction) (i : IsAmount scale) where
    -- each expression is read in the states at the start
    pub consume_two : (s w : State) → Under F s w → {a : t.Assertion} → IsAssertion c a → HasNoWildcard a → (left other : State) → Under F left other → Leading (consume Unbounded a s sc scale left) (consume Unbounded a w sd scale other)
    consume_two s w h j n left other l = weaker_leads (λ u v r. r.under) (consume_one F c typed s w sc sd h g scale i j n left other l)

    chosen_reduced : (d : Choice) → FitsChoice c.program.layout d → (q : Fraction) → amount_in d ≡ Some q → IsReduced q
    chosen_reduced (choice.Amount p) j q e = let same : p ≡ q = cc in subst IsReduced same j
    chosen_reduced (choice.Branch b) j q e = cc
    chosen_reduced (choice.Took w) j q e = cc
    chosen_reduced (choice.Fresh r) j q e = cc
    chosen_reduced (choice.Filled m) j q e = cc

    produce_amount_two : {m : t.Amt} → typing.IsAmount c m → (at : Pos) (s w : State) (x : Resource) → Under F s w → Leading (produce_amount Unbounded m sc scale at s x) (produce_amount Unbounded m sd scale at w x)
    produce_amount_two (typing.amount j) at s w x h = together (then_proper IsReduced (perm_two F c typed s w sc sd h g j) (perm_reduced F c typed s w sc sd h g j) (λ q r. given_two F sc sd scale x at q i r h))
    produce_amount_two (typing.wildcard j) at s w x h =
        taking_leads amount_in (λ d k q e. before_leads (event.Wild q ∷ []) (event.Wild q ∷ []) (together (some_given_two F scale x at q i (chosen_reduced d k q e) h)))

    -- each expression is read in the states that the earlier parts have made
    pub produce_two : {a : t.Assertion} → IsAssertion c a → (s w : State) → Under F s w → Leading (produce Unbounded a sc scale s) (produce Unbounded a sd scale w)
    produce_two (typing.fact j) s w h = together (then_same (truth_two F c typed s w sc sd h g j) (λ holds. if_agrees holds (is_agrees h) blocked))
    produce_two (typing.access {f = f} {at = at} j there m) s w h = same_leads (place_two F c typed s w sc sd h g f j) (λ x. produce_amount_two m at s w x h)
    produce_two (typing.instance {p = p} {at = at} d there j m) s w h = same_leads (instance_two F c typed s w sc sd h g p j) (λ x. produce_amount_two m at s w x h)
    produce_two (typing.both j k) s w h = then_leads (produce_two j s w h) (λ u v m. produce_two k u v m)
    produce_two (typing.implied j k) s w h = same_leads (truth_two F c typed s w sc sd h g j) (λ holds. if_leads holds (produce_two k s w h) (goes_leads h))
    produce_two (typing.chosen j k m) s w h = same_leads (truth_two F c typed s w sc sd h g j) (λ holds. if_leads holds (produce_two k s w h) (produce_two m s w h))

  pub consume_all_two : (list : List t.Assertion) → All (IsAssertion c) list → All HasNoWildcard list → (s w : State) → Under F s w → (left other : State) → Under F left other →
      Leading (consume_all Unbounded list s sc left) (consume_all Unbounded list w sd other)
  consume_all_two list i n s w h left other l = weaker_leads (λ u v r. r.under) (consume_each F c typed s w sc sd h g list i n left other l)

  pub produce_all_two : (list : List t.Assertion) → All (IsAssertion c) list → (s w : State) → Under F s w → Leading (produce_all Unbounded list sc s) (produce_all Unbounded list sd w)
  produce_all_two [] i s w h = goes_leads h
  produce_all_two (a ∷ list) i s w h = then_leads (produce_two write amount_write (All-head (IsAssertion c) a list i) s w h) (λ u v k. produce_all_two list (All-tail (IsAssertion c) a list i) u v k)

-- ---- forgetting

memo_found : (l : Layout) (m : Memo) → FitsMemo l m → memo_in l (choice.Filled m) ≡ Some m
memo_found l m g = ap (λ b. if b then Some m else None) ((Decides-fits_memo l m).1 g)

module _ (F : Rest) (l : Layout) (s w : State) (h : Under F s w) (less : FitsState l s) (more : FitsState l w) where
  -- where the smaller holds something, so does the greater
  holds_too : (x : Resource) → ((q : Fraction) → held_at s x ≡ Some q → is_none q ≡ false) → (p : Fraction) → held_at w x ≡ Some p → is_none p ≡ false
  holds_too x n p e =
      let own = held_there more less x p e in
      part_some (own_part (framed_at h x own.0 p own.1 e)) (n own.0 own.1)

  -- and where the rest does
  rest_too : (x : Resource) → is_none (F.held x) ≡ false → (p : Fraction) → held_at w x ≡ Some p → is_none p ≡ false
  rest_too x n p e = by (is_none p) refl
    where
      by : (b : Bool) → is_none p ≡ b → is_none p ≡ false
      by true g =
          let own = held_there more less x p e in
          absurd (true≢false (sym (no_rest (framed_at h x own.0 p own.1 e) g) ∙ n))
      by false g = g

  one_amount : (x : Resource) {q : Fraction} {b : Bool} → held_at s x ≡ Some q → is_none q ≡ b → (p : Fraction) → held_at s x ≡ Some p → is_none p ≡ b
  one_amount x {q} {b} e n p g =
      let found : Some q ≡ Some p = sym e ∙ g in
      let same : q ≡ p = cc in
      subst (λ z. is_none z ≡ b) same n

  no_amount : (x : Resource) → held_at s x ≡ None → (p : Fraction) → held_at s x ≡ Some p → is_none p ≡ false
  no_amount x e p g = let no : None ≡ Some p = sym e ∙ g in cc

  module _ (m : Memo) (g : FitsMemo l m) where
    in_more : FitsMemo l (forgotten w m)
    in_more = forgotten_fits l w m more g

    values_after : (f r : ℕ) → value_at (with_memo s (forgotten s (forgotten w m))) f r ≡ value_at (with_memo w (forgotten w m)) f r
    values_after f r = by (mask_at s f r) refl
      where
        own : ((q : Fraction) → mask_at s f r ≡ Some q → is_none q ≡ false) → value_at (with_memo s (forgotten s (forgotten w m))) f r ≡ value_at (with_memo w (forgotten w m)) f r
        own n = value_own l s (forgotten w m) less in_more f r n ∙ h.values f r ∙ sym (value_own l w m more g f r (holds_too (Place f r) n))

        by_none : (q : Fraction) → mask_at s f r ≡ Some q → (b : Bool) → is_none q ≡ b → value_at (with_memo s (forgotten s (forgotten w m))) f r ≡ value_at (with_memo w (forgotten w m)) f r
        by_none q e true n = value_new l s (forgotten w m) less in_more f r (one_amount (Place f r) e n)
        by_none q e false n = own (one_amount (Place f r) e n)

        by : (o : Option Fraction) → mask_at s f r ≡ o → value_at (with_memo s (forgotten s (forgotten w m))) f r ≡ value_at (with_memo w (forgotten w m)) f r
        by (Some q) e = by_none q e (is_none q) refl
        by None e = own (no_amount (Place f r) e)

    contents_after : (p : ℕ) (k : Key) → content_at (with_memo s (forgotten s (forgotten w m))) p k ≡ content_at (with_memo w (forgotten w m)) p k
    contents_after p k = by (amount_at s p k) refl
      where
        own : ((q : Fraction) → amount_at s p k ≡ Some q → is_none q ≡ false) → content_at (with_memo s (forgotten s (forgotten w m))) p k ≡ content_at (with_memo w (forgotten w m)) p k
        own n = content_own l s (forgotten w m) less in_more p k n ∙ h.contents p k ∙ sym (content_own l w m more g p k (holds_too (Instance p k) n))

        by_none : (q : Fraction) → amount_at s p k ≡ Some q → (b : Bool) → is_none q ≡ b → content_at (with_memo s (forgotten s (forgotten w m))) p k ≡ content_at (with_memo w (forgotten w m)) p k
        by_none q e true n = content_new l s (forgotten w m) less in_more p k (one_amount (Instance p k) e n)
        by_none q e false n = own (one_amount (Instance p k) e n)

        by : (o : Option Fraction) → amount_at s p k ≡ o → content_at (with_memo s (forgotten s (forgotten w m))) p k ≡ content_at (with_memo w (forgotten w m)) p k
        by (Some q) e = by_none q e (is_none q) refl
        by None e = own (no_amount (Instance p k) e)

    held_after : (x : Resource) → FramedPart x (F.held x) [] (held_at (with_memo s (forgotten s (forgotten w m))) x) (held_at (with_memo w (forgotten w m)) x)
    held_after (Place f r) = h.held (Place f r)
    held_after (Instance p k) = h.held (Instance p k)

    -- with less, what is forgotten becomes what it becomes with more
    forgotten_under : Under F (with_memo s (forgotten s (forgotten w m))) (with_memo w (forgotten w m))
    forgotten_under = record {
      less = full_where_fits (after_fits l s (forgotten w m) less in_more) (record { mask = h.less.whole.nonnegative.mask; amount = h.less.whole.nonnegative.amount });
      more = full_where_fits (after_fits l w m more g) (record { mask = h.more.whole.nonnegative.mask; amount = h.more.whole.nonnegative.amount });
      values = values_after;
      contents = contents_after;
      held = held_after;
      amounts = h.amounts;
      kept_values = λ f r n. value_own l w m more g f r (rest_too (Place f r) n) ∙ h.kept_values f r n;
      kept_contents = λ p k n. content_own l w m more g p k (rest_too (Instance p k) n) ∙ h.kept_contents p k n;
    }

  abbrev answer : (c : Choice) → FitsChoice l c → Choice
  answer (choice.Filled m) i = choice.Filled (forgotten w m)
  answer (choice.Branch b) i = choice.Branch b
  answer (choice.Took x) i = choice.Took x
  answer (choice.Amount q) i = choice.Amount q
  answer (choice.Fresh r) i = choice.Fresh r

  answer_fits : (c : Choice) (i : FitsChoice l c) → FitsChoice l (answer c i)
  answer_fits (choice.Filled m) i = forgotten_fits l w m more i
  answer_fits (choice.Branch b) i = i
  answer_fits (choice.Took x) i = i
  answer_fits (choice.Amount q) i = i
  answer_fits (choice.Fresh r) i = i

  abbrev going : State → Memo → Run State
  going u m = before (event.Whole (forgotten u m) ∷ []) (goes (with_memo u (forgotten u m)))

  answer_leads : (c : Choice) (i : FitsChoice l c) → Leads (FitsChoice l) (Under F) (given (memo_in l (answer c i)) (going s)) (given (memo_in l c) (going w))
  answer_leads (choice.Filled m) i =
      subst (λ o. Leads (FitsChoice l) (Under F) (given o (going s)) (given (memo_in l (choice.Filled m)) (going w))) (sym (memo_found l (forgotten w m) (in_more m i)))
      (subst (λ o. Leads (FitsChoice l) (Under F) (going s (forgotten w m)) (given o (going w))) (sym (memo_found l m i)) (before_leads (event.Whole (forgotten s (forgotten w m)) ∷ []) (event.Whole (forgotten w m) ∷ []) (goes_leads (forgotten_under m i))))
  answer_leads (choice.Branch b) i = lost_then
  answer_leads (choice.Took x) i = lost_then
  answer_leads (choice.Amount q) i = lost_then
  answer_leads (choice.Fresh r) i = lost_then

  pub forget_two : Leads (FitsChoice l) (Under F) (forget l s) (forget l w)
  forget_two = answered answer answer_fits answer_leads

-- ---- writing a field

pub written_two : (F : Rest) {s w : State} (sc sd : Scene) (f : ℕ) (at : Pos) (r : ℕ) (x : Value) → IsProperValue Unbounded x → HoldsAtMostWhole w → Under F s w →
    AreClose (Under F) (field_written sc s f at r x) (field_written sd w f at r x)
written_two F {s} {w} sc sd f at r x proper whole h =
    where_not (r == 0) failed (λ there. then_agrees (found_two (Place f r) h) (λ a b held.
    let parts = framed_at h (Place f r) a b held.0 held.1 in
    fails_first (not (fraction_eq a write)) (not (fraction_eq b write)) failed (λ e. ap not ((exact_masks.values b write).1 (only a b parts held.1 e).all))
    (λ e. is_agrees (under_value h f r x proper (only a b parts held.1 e).rest)) (λ y. failed)))
  where
    only : (a b : Fraction) → Framed (F.held (Place f r)) a b → mask_at w f r ≡ Some b → not (fraction_eq a write) ≡ false → IsAlone (F.held (Place f r)) b
    only a b parts e all = alone (subst (λ z. Framed (F.held (Place f r)) z b) ((exact_masks.values a write).0 (negated (fraction_eq a write) all)) parts) (not_too_much w whole (Place f r) b e)

-- ---- a new object

pub took_reduced : (l : Layout) (u : Ty) (c : Choice) → FitsChoice l c → (x : Value) → value_in u c ≡ Some x → IsReducedValue x
took_reduced l u (choice.Took y) i x e = by (same_type (type_of y) u) e
  where
    by : (b : Bool) → (if b then Some y else None) ≡ Some x → IsReducedValue x
    by true g = let same : y ≡ x = cc in subst IsReducedValue same i
    by false g = cc
took_reduced l u (choice.Branch b) i x e = cc
took_reduced l u (choice.Amount q) i x e = cc
took_reduced l u (choice.Fresh r) i x e = cc
took_reduced l u (choice.Filled m) i x e = cc

module _ (F : Rest) (l : Layout) (r : ℕ) (free : (f : ℕ) (u : Ty) → slice_get l.fields f ≡ Some u → is_none (F.held (Place f r)) ≡ true) where
  whole_beside : (f : ℕ) (u : Ty) → slice_get l.fields f ≡ Some u → Framed (F.held (Place f r)) write write
  whole_beside f u e = record {
    rest = F.amounts (Place f r);
    own = amount_write;
    all = subst (λ z. IsPartOf z write) (sym (ap (λ z. sum z write) (is_none_itself (F.held (Place f r)) (F.amounts (Place f r)).reduced (free f u e)) ∙ none_and_whole)) (part_self amount_write);
  }

  created_two : (fs : List ℕ) (s w : State) → Under F s w → Leads (FitsChoice l) (Under F) (created l.fields r fs s) (created l.fields r fs w)
  created_two [] s w h = goes_leads h
  created_two (f ∷ fs) s w h = found_leads (slice_get l.fields f) (λ u e. taking_leads (value_in u) (λ c i x g. before_leads (event.Took x ∷ []) (event.Took x ∷ [])
      (created_two fs (with_mask (with_value s f r x) f r write) (with_mask (with_value w f r x) f r write)
      (under_held (under_value h f r x (proper_value x (took_reduced l u c i x g)) (free f u e)) (Place f r) write write (whole_beside f u e)))))

-- what is held of a part
record HasPart (q : Fraction) (o : Option Fraction) : Type 0 where
  whole : Fraction
  there : o ≡ Some whole
  part : IsPartOf q whole

part_in : (o p : Option Fraction) (q : Fraction) → HeldPart o p → o ≡ Some q → HasPart q p
part_in (Some x) (Some y) q h e = let same : x ≡ q = cc in record { whole = y; there = refl; part = subst (λ z. IsPartOf z y) same h }
part_in (Some x) None q h e = absurd h
part_in None p q h e = cc

module _ (F : Rest) (s w : State) (h : Under F s w) (r : ℕ) (refs : List ℕ) (vs : List Value) (k : KnowsNothingOf r refs (record { store = vs; state = w })) where
  -- of what is unknown with more, nothing is known with less
  fresh_below : KnowsNothingOf r refs (record { store = vs; state = s })
  fresh_below = record {
    not_null = k.not_null;
    not_named = k.not_named;
    not_held = λ f q e. nothing f q (part_in (mask_at s f r) (mask_at w f r) q ((under_near h).held (Place f r)) e) (is_none q) refl;
    not_stored = λ f x q e n same.
        let part = part_in (mask_at s f x) (mask_at w f x) q ((under_near h).held (Place f x)) e in
        k.not_stored f x part.whole part.there (part_some part.part n) (sym (h.values f x) ∙ same);
  }
    where
      nothing : (f : ℕ) (q : Fraction) → HasPart q (mask_at w f r) → (b : Bool) → is_none q ≡ b → is_none q ≡ true
      nothing f q part true n = n
      nothing f q part false n = absurd (true≢false (sym (k.not_held f part.whole part.there) ∙ part_some part.part n))

  -- and of it the rest holds nothing
  fresh_free : {l : Layout} → FitsState l s → FitsState l w → (f : ℕ) (u : Ty) → slice_get l.fields f ≡ Some u → is_none (F.held (Place f r)) ≡ true
  fresh_free less more f u e =
      let own = mask_found less f r u e in
      let whole = mask_found more f r u e in
      no_rest (framed_at h (Place f r) own.0 whole.0 own.1.0 whole.1.0) (k.not_held f whole.0 whole.1.0)

pub new_two : (F : Rest) (l : Layout) (s w : State) → Under F s w → FitsState l s → FitsState l w → (r : ℕ) (refs : List ℕ) (vs : List Value) (fields : List ℕ) {X Y : Type 0} {R : X → Y → Type 0} {go : State → Run X} {to : State → Run Y} →
    ((x y : State) → Under F x y → Leads (FitsChoice l) R (go x) (to y)) →
    Leads (FitsChoice l) R (if is_fresh r refs (record { store = vs; state = s }) then then_do (created l.fields r fields s) go else ended blocks)
    (if is_fresh r refs (record { store = vs; state = w }) then then_do (created l.fields r fields w) to else ended blocks)
new_two F l s w h less more r refs vs fields {R = R} {go = go} {to = to} g =
    by (is_fresh r refs (record { store = vs; state = s })) (is_fresh r refs (record { store = vs; state = w })) (Decides-fresh l r refs (record { store = vs; state = s }) less) (Decides-fresh l r refs (record { store = vs; state = w }) more)
  where
    by : (a b : Bool) → Decides a (KnowsNothingOf r refs (record { store = vs; state = s })) → Decides b (KnowsNothingOf r refs (record { store = vs; state = w })) →
        Leads (FitsChoice l) R (if a then then_do (created l.fields r fields s) go else ended blocks) (if b then then_do (created l.fields r fields w) to else ended blocks)
    by a false d e = lost_then
    by true true d e = then_leads (created_two F l r (fresh_free F s w h r refs vs (e.0 refl) less more) fields s w h) g
    by false true d e = let no : false ≡ true = d.1 (fresh_below F s w h r refs vs (e.0 refl)) in cc
