-- Where less is held, an expression fails or has the value that it has where more is held, unless it blocks there.
use Rattle.std.proofs.Common.{◌≡◌, ◌∙◌, ◌⊎◌, inl, inr, refl, sym, ap, subst, ℕ, ◌==◌, Bool, true, false, not, Option, Some, None, List, [], All, slice_get, if◌then◌else◌}
use Rattle.std.specs.Bool.{Decides}
use Rattle.std.specs.Ordering.{is_lt}
use Rattle.vb_base.specs.declared.places.Pos.{Pos}
use Rattle.vb_value.specs.Bound.{Unbounded}
use Rattle.vb_value.specs.Content.{Content, same_content, IsProperContent}
use Rattle.vb_value.specs.Fraction.{Fraction, IsReduced, IsProperFraction, is_negative, is_positive, is_none, is_above_one, difference, product, order}
use Rattle.vb_value.specs.Key.{IsProperKey}
use Rattle.vb_value.specs.Value.{value_eq, type_of, same_type, IsProperValue}
use Rattle.vb_value.specs.declared.values.Value.{Value}
use Rattle.vb_value.proofs.SignLaws.{positive_not_negative}
use Rattle.viper_core.specs.Expr as t
use Rattle.viper_core.specs.Plain.{HasNoOld, OpenedHasNoOld, HaveNoOld, AmountHasNoOld, AssertionHasNoOld}
use Rattle.viper_core.specs.Literals.{IsProperExpr, IsProperOpened, AreProperExprs, IsProperAmount, IsProperAssertion}
use Rattle.viper_state.specs.Event as event
use Rattle.viper_state.specs.Event.{Event}
use Rattle.viper_state.specs.State.{State, Key, value_at, content_at, with_value, with_content}
use Rattle.viper_state.specs.Run.{Scene, with_variables}
use Rattle.viper_state.specs.Within.{AllOfEvent, IsProperScene}
use Rattle.viper_state.proofs.EachLaws.{content_has}
use Rattle.viper_state.proofs.MapLaws.{exact_values, exact_contents}
use Rattle.viper_meaning.specs.Ends.{Evaluated, is, blocks, then_with, found, unless, recorded}
use Rattle.viper_meaning.specs.Kept as kept
use Rattle.viper_meaning.specs.Kept.{Keeps}
use Rattle.viper_meaning.specs.Operators.{class_of, truth_of, perm_of, ref_of, negative, negation}
use Rattle.viper_meaning.specs.Places.{key_of, taken, unit_of, leaf_of, pair_of, leaf_for, added, fill_leaf, fill_place, fill_held, fill_instance}
use Rattle.viper_meaning.specs.Resource.{Resource, Place, Instance, held_at}
use Rattle.viper_meaning.specs.Value.{value, unfolded, values, amount_of, opened}
use Rattle.viper_meaning.specs.Variables.{AgreeOn, AgreeOnAll, AgreeOnAmount, AgreeOnAssertion}
use Rattle.viper_meaning.proofs.AgreeLaws.{Agrees, failed, over, both, blocked, lost, IsSame, agrees_self, is_agrees, after_agrees, then_agrees, then_same, then_alike, if_agrees, read_agrees, class_agrees, agrees_weaker}
use Rattle.viper_meaning.proofs.ClosedLaws.{proper_closed}
use Rattle.viper_meaning.proofs.KeptLaws as k
use Rattle.viper_meaning.proofs.NearLaws.{IsFull, Close}
use Rattle.viper_meaning.proofs.ReadLaws.{values_proper, perm_proper, amount_proper, parts_proper}
use Rattle.viper_meaning.proofs.PartLaws.{IsAmount, part_some, part_enough, part_not_above, amount_product}
use Rattle.viper_meaning.proofs.UnderLaws.{Rest, nobody, FramedPart, Under, Framed, own_part, no_rest, framed_added, framed_taken, framed_at, under_near, under_close, close_under, under_held, under_value, under_value_there, under_content, under_content_there}
use Rattle.viper_meaning.proofs.VariableLaws.{value_agrees}

abbrev pub AreClose : {X Y : Type 0} → (X → Y → Type 0) → Evaluated X → Evaluated Y → Type 0
AreClose R e f = Agrees (Unit {0}) R e f

-- ---- ways to go on

-- what the first has is kept
pub then_proper : {X Z W : Type 0} {E : Event → Type 0} (P : X → Type 0) {S : Z → W → Type 0} {e f : Evaluated X} {go : X → Evaluated Z} {to : X → Evaluated W} → AreClose IsSame e f → Keeps E P e →
    ((x : X) → P x → AreClose S (go x) (to x)) → AreClose S (then_with e go) (then_with f to)
then_proper P {S = S} {go = go} {to = to} (both {x = x} same) (kept.value h p) g = after_agrees _ _ (subst (λ z. AreClose S (go x) (to z)) same (g x p))
then_proper P failed k g = failed
then_proper P over k g = over
then_proper P blocked k g = blocked
then_proper P (lost m) k g = lost m

pub found_parts : (F : Rest) {s w : State} (x : Resource) → Under F s w → AreClose (λ a b. Framed (F.held x) a b) (found (held_at s x)) (found (held_at w x))
found_parts F {s} {w} x h = by (held_at s x) (held_at w x) refl refl (h.held x)
  where
    by : (o p : Option Fraction) → held_at s x ≡ o → held_at w x ≡ p → FramedPart x (F.held x) [] o p → AreClose (λ a b. Framed (F.held x) a b) (found o) (found p)
    by (Some a) (Some b) e g q = is_agrees (framed_at h x a b e g)
    by None None e g q = blocked
    by (Some a) None e g q = absurd q
    by None (Some b) e g q = absurd q

pub found_same : {X : Type 0} (o p : Option X) → o ≡ p → AreClose IsSame (found o) (found p)
found_same o p e = subst (λ q. AreClose IsSame (found o) (found q)) e (agrees_self (found o))

-- what fails with more fails with less
pub fails_first : {X Y : Type 0} {R : X → Y → Type 0} {f g : Evaluated X} {e h : Evaluated Y} (a b : Bool) → AreClose R f e → (a ≡ false → b ≡ false) → (a ≡ false → AreClose R g h) → ((y : Evaluated Y) → AreClose R f y) → AreClose R (unless a f g) (unless b e h)
fails_first {e = e} {h = h} true b first go then_go any = any (unless b e h)
fails_first false true first go then_go any = let no : true ≡ false = go refl in cc
fails_first false false first go then_go any = then_go refl

pub where_holds : {X Y : Type 0} {R : X → Y → Type 0} {g : Evaluated X} {h : Evaluated Y} (b : Bool) {f : Evaluated X} {e : Evaluated Y} → AreClose R f e → (b ≡ true → AreClose R g h) → AreClose R (unless (not b) f g) (unless (not b) e h)
where_holds true first go = go refl
where_holds false first go = first

pub where_not : {X Y : Type 0} {R : X → Y → Type 0} {g : Evaluated X} {h : Evaluated Y} (b : Bool) {f : Evaluated X} {e : Evaluated Y} → AreClose R f e → (b ≡ false → AreClose R g h) → AreClose R (unless b f g) (unless b e h)
where_not true first go = first
where_not false first go = go refl

-- what blocks with less blocks with more
pub blocks_last : {X Y : Type 0} {R : X → Y → Type 0} {g : Evaluated X} {h : Evaluated Y} (a b : Bool) → (b ≡ false → a ≡ false) → AreClose R g h → AreClose R (unless a blocks g) (unless b blocks h)
blocks_last true true back go = blocked
blocks_last false true back go = lost tt
blocks_last true false back go = let no : true ≡ false = back refl in cc
blocks_last false false back go = go

-- ---- taking and filling

pub taken_two : (F : Rest) {s w : State} (sc sd : Scene) (p : ℕ) (key : Key) (q : Fraction) (at : Pos) → IsReduced q → Under F s w → AreClose (λ t x. Under F t x × (is_positive q ≡ true)) (taken Unbounded sc s p key q at) (taken Unbounded sd w p key q at)
taken_two F {s} {w} sc sd p key q at reduced h =
    where_holds (is_positive q) failed (λ positive.
    let amount : IsAmount q = record { reduced = reduced; not_negative = positive_not_negative q positive } in
    then_agrees (found_parts F (Instance p key) h) (λ a b parts.
    after_agrees [] [] (fails_first (is_lt (order a q)) (is_lt (order b q)) failed (part_enough q (own_part parts) amount) (λ enough.
    after_agrees [] [] (is_agrees (under_held h (Instance p key) (difference a q) (difference b q) (framed_taken q parts amount enough), positive))) (λ y. failed))))

pub added_two : (f a b scale q : Fraction) (at : Pos) → Framed f a b → IsAmount scale → IsAmount q → AreClose (Framed f) (added Unbounded a scale q at) (added Unbounded b scale q at)
added_two f a b scale q at h i j = after_agrees [] [] (is_agrees (framed_added (product scale q) h (amount_product i j)))

-- a place or instance takes what it is given where nothing was held, and else has to have it
module _ {X : Type 0} (eq : X → X → Bool) (exact : (x y : X) → Decides (eq x y) (x ≡ y)) (v : X) (P : State → State → Type 0) (s w t x : State) where
  compared_close : (o : X) (b : Bool) → eq v o ≡ b → P s w → AreClose P (unless (not b) blocks (is s)) (unless (not b) blocks (is w))
  compared_close o true e h = is_agrees h
  compared_close o false e h = blocked

  both_have : (o p : Option X) → o ≡ p → P s w → AreClose P (then_with (found o) (λ old. unless (not (eq v old)) blocks (is s))) (then_with (found p) (λ old. unless (not (eq v old)) blocks (is w)))
  both_have o p e h = then_same (found_same o p e) (λ old. compared_close old (eq v old) refl h)

  one_has_by : (o : X) (b : Bool) → eq v o ≡ b → (v ≡ o → P t w) → AreClose P (is t) (unless (not b) blocks (is w))
  one_has_by o true e h = is_agrees (h ((exact v o).0 e))
  one_has_by o false e h = lost tt

  one_has : (o : Option X) → (o ≡ Some v → P t w) → AreClose P (is t) (then_with (found o) (λ old. unless (not (eq v old)) blocks (is w)))
  one_has None h = lost tt
  one_has (Some o) h = after_agrees [] [] (one_has_by o (eq v o) refl (λ same. h (ap Some (sym same))))

  placed : (a b : Bool) → (a ≡ false → b ≡ false) → (o p : Option X) → o ≡ p → (b ≡ true → P t x) → (p ≡ Some v → P t w) → P s w →
      AreClose P (if a then is t else then_with (found o) (λ old. unless (not (eq v old)) blocks (is s))) (if b then is x else then_with (found p) (λ old. unless (not (eq v old)) blocks (is w)))
  placed true true go o p e h i j = is_agrees (h refl)
  placed true false go o p e h i j = one_has p i
  placed false true go o p e h i j = let no : true ≡ false = go refl in cc
  placed false false go o p e h i j = both_have o p e j

module _ (F : Rest) where
  leaf_two : {s w : State} (f r : ℕ) (c : Content) → Under F s w → AreClose IsSame (leaf_for s f r c) (leaf_for w f r c)
  leaf_two {s} {w} f r c h =
      subst (λ o. AreClose IsSame (leaf_for s f r c) (unless (r == 0) blocks (then_with (leaf_of c) (λ v. then_with (found o) (λ old. unless (not (same_type (type_of v) (type_of old))) blocks (recorded (event.Leaf v) (is v)))))))
      (h.values f r) (agrees_self (leaf_for s f r c))

  fill_leaf_two : {s w : State} (scale : Fraction) (f r : ℕ) (q : Fraction) (v : Value) (at : Pos) → IsAmount scale → IsAmount q → IsProperValue Unbounded v → Under F s w →
      AreClose (Under F) (fill_leaf Unbounded scale f r q v at s) (fill_leaf Unbounded scale f r q v at w)
  fill_leaf_two {s} {w} scale f r q v at i j proper h =
      then_agrees (found_parts F (Place f r) h) (λ a b parts.
      then_agrees (placed value_eq exact_values.values v (Under F) s w (with_value s f r v) (with_value w f r v) (is_none a) (is_none b) (part_some (own_part parts)) (value_at s f r) (value_at w f r) (h.values f r) (λ none. under_value h f r v proper (no_rest parts none)) (under_value_there h f r v proper) h) (λ t x under.
      then_agrees (added_two (F.held (Place f r)) a b scale q at parts i j) (λ c d more.
      blocks_last (is_above_one c) (is_above_one d) (part_not_above (own_part more)) (is_agrees (under_held under (Place f r) c d more)))))

  pub fill_held_two : {s w : State} (scale : Fraction) (p : ℕ) (key : Key) (q : Fraction) (c : Content) (at : Pos) → IsAmount scale → IsAmount q → IsProperContent Unbounded c → Under F s w →
      AreClose (Under F) (fill_held Unbounded scale p key q c at s) (fill_held Unbounded scale p key q c at w)
  fill_held_two {s} {w} scale p key q c at i j proper h =
      then_agrees (found_parts F (Instance p key) h) (λ a b parts.
      then_agrees (placed same_content exact_contents.values c (Under F) s w (with_content s p key c) (with_content w p key c) (is_none a) (is_none b) (part_some (own_part parts)) (content_at s p key) (content_at w p key) (h.contents p key) (λ none. under_content h p key c proper (no_rest parts none)) (under_content_there h p key c proper) h) (λ t x under.
      then_agrees (added_two (F.held (Instance p key)) a b scale q at parts i j) (λ d e more. is_agrees (under_held under (Instance p key) d e more))))

  nothing_two : {s w : State} (c : Content) → Under F s w → AreClose (Under F) (then_with (unit_of c) (λ u. is s)) (then_with (unit_of c) (λ u. is w))
  nothing_two c h = then_same (agrees_self (unit_of c)) (λ u. is_agrees h)

  fill_place_two : {s w : State} (sc sd : Scene) (scale : Fraction) (f r : ℕ) (q : Fraction) (c : Content) (at : Pos) → IsAmount scale → IsReduced q → IsProperContent Unbounded c → Under F s w →
      AreClose (Under F) (fill_place Unbounded sc scale f r q c at s) (fill_place Unbounded sd scale f r q c at w)
  fill_place_two {s} {w} sc sd scale f r q c at i j proper h =
      where_not (is_negative q) failed (λ sign. if_agrees (is_none q) (nothing_two c h)
      (then_proper (IsProperValue Unbounded) (leaf_two f r c h)
      (k.leaf_for_kept Unbounded (IsProperFraction Unbounded) IsReduced (IsProperValue Unbounded) (IsProperKey Unbounded) (IsProperContent Unbounded) (proper_closed Unbounded) s f r c proper)
      (λ v l. fill_leaf_two scale f r q v at i (record { reduced = j; not_negative = sign }) l h)))

  fill_instance_two : {s w : State} (sc sd : Scene) (scale : Fraction) (p : ℕ) (key : Key) (q : Fraction) (c : Content) (at : Pos) → IsAmount scale → IsReduced q → IsProperContent Unbounded c → Under F s w →
      AreClose (Under F) (fill_instance Unbounded sc scale p key q c at s) (fill_instance Unbounded sd scale p key q c at w)
  fill_instance_two sc sd scale p key q c at i j proper h =
      where_not (is_negative q) failed (λ sign. if_agrees (is_none q) (nothing_two c h) (fill_held_two scale p key q c at i (record { reduced = j; not_negative = sign }) proper h))

-- ---- two scenes

-- the old states, as they are read: one and the same in a step at the same place, or of which one holds a part of what the
-- other holds
abbrev pub OldsAgree : Scene → Scene → Type 0
OldsAgree sc sd = ((sc.at ≡ sd.at) × (sc.old ≡ sd.old)) ⊎ Close sc.old sd.old

part_of : {P Q O : Type 0} → (P → Q) → P ⊎ O → Q ⊎ O
part_of go (inl p) = inl (go p)
part_of go (inr o) = inr o

-- an expression agrees with itself on its variables
mutual
  pub itself_agrees : (vs : List Value) (e : t.Expr) → AgreeOn vs vs e
  itself_agrees vs (t.Var x) = refl
  itself_agrees vs (t.Int n) = tt
  itself_agrees vs (t.Bool a) = tt
  itself_agrees vs t.Null = tt
  itself_agrees vs (t.Part q) = tt
  itself_agrees vs (t.Neg a) = itself_agrees vs a
  itself_agrees vs (t.Not a) = itself_agrees vs a
  itself_agrees vs (t.Bin o a b at) = (itself_agrees vs a, itself_agrees vs b)
  itself_agrees vs (t.Choose a b c) = (itself_agrees vs a, itself_agrees vs b, itself_agrees vs c)
  itself_agrees vs (t.Field a f at) = itself_agrees vs a
  itself_agrees vs (t.Old a) = itself_agrees vs a
  itself_agrees vs (t.Unfolding (t.opened p args amount body inner at)) = (all_itself_agree vs args, itself_agrees vs amount, itself_agrees vs inner)

  pub all_itself_agree : (vs : List Value) (es : t.Exprs) → AgreeOnAll vs vs es
  all_itself_agree vs t.none = tt
  all_itself_agree vs (t.more a rest) = (itself_agrees vs a, all_itself_agree vs rest)

amount_itself_agrees : (vs : List Value) (m : t.Amt) → AgreeOnAmount vs vs m
amount_itself_agrees vs (t.Is e) = itself_agrees vs e
amount_itself_agrees vs t.Wildcard = tt

pub assertion_itself_agrees : (vs : List Value) (a : t.Assertion) → AgreeOnAssertion vs vs a
assertion_itself_agrees vs (t.Fact a at) = itself_agrees vs a
assertion_itself_agrees vs (t.Acc a f m at) = (itself_agrees vs a, amount_itself_agrees vs m)
assertion_itself_agrees vs (t.Inst p args m at) = (all_itself_agree vs args, amount_itself_agrees vs m)
assertion_itself_agrees vs (t.And a b) = (assertion_itself_agrees vs a, assertion_itself_agrees vs b)
assertion_itself_agrees vs (t.Implies a b) = (itself_agrees vs a, assertion_itself_agrees vs b)
assertion_itself_agrees vs (t.ChooseAssertion a b c) = (itself_agrees vs a, assertion_itself_agrees vs b, assertion_itself_agrees vs c)

-- in one old state, in a step at the same place
one_old : (a : t.Expr) (sc sd : Scene) → AgreeOn sc.store sd.store a → sc.at ≡ sd.at → sc.old ≡ sd.old → AreClose IsSame (value Unbounded a sc.old sc) (value Unbounded a sd.old sd)
one_old a sc sd h at old =
    let moved : value Unbounded a sc.old sc ≡ value Unbounded a sd.old (with_variables sc.store sd) = λ i. value Unbounded a (old i) (record { store = sc.store; old = old i; at = at i }) in
    subst (λ e. AreClose IsSame (value Unbounded a sc.old sc) e) (moved ∙ value_agrees Unbounded sc.store a sd.old sd h) (agrees_self (value Unbounded a sc.old sc))

-- ---- expressions and bodies

pub amount_is : (q : Fraction) → IsReduced q → is_positive q ≡ true → IsAmount q
amount_is q h e = record { reduced = h; not_negative = positive_not_negative q e }

pub content_same : (F : Rest) {s w : State} (p : ℕ) (key : Key) → Under F s w → AreClose IsSame (found (content_at s p key)) (found (content_at w p key))
content_same F {s} {w} p key h = found_same (content_at s p key) (content_at w p key) (h.contents p key)

pub content_proper : {s : State} {E : Event → Type 0} (p : ℕ) (key : Key) → IsFull s → Keeps E (IsProperContent Unbounded) (found (content_at s p key))
content_proper {s} p key h = k.found_kept (content_at s p key) (content_has h.whole.proper p key)

-- In two scenes that agree on the variables, and on the old states where those are read. The rest is what others hold besides.
mutual
  pub value_two : (F : Rest) (e : t.Expr) (s w : State) (sc sd : Scene) → IsProperExpr Unbounded e → Under F s w → IsProperScene Unbounded sc → AgreeOn sc.store sd.store e → HasNoOld e ⊎ OldsAgree sc sd →
      AreClose IsSame (value Unbounded e s sc) (value Unbounded e w sd)
  value_two F (t.Var x) s w sc sd i h g v o = found_same (slice_get sc.store x) (slice_get sd.store x) v
  value_two F (t.Int n) s w sc sd i h g v o = is_agrees refl
  value_two F (t.Bool a) s w sc sd i h g v o = is_agrees refl
  value_two F t.Null s w sc sd i h g v o = is_agrees refl
  value_two F (t.Part q) s w sc sd i h g v o = is_agrees refl
  value_two F (t.Neg a) s w sc sd i h g v o = then_alike negative (value_two F a s w sc sd i h g v o)
  value_two F (t.Not a) s w sc sd i h g v o = then_alike negation (value_two F a s w sc sd i h g v o)
  value_two F (t.Bin p x y at) s w sc sd i h g v o =
      class_agrees (class_of p) sc sd p at (value_two F x s w sc sd i.0 h g v.0 (part_of (λ n. n.0) o)) (value_two F y s w sc sd i.1 h g v.1 (part_of (λ n. n.1) o))
  value_two F (t.Choose a x y) s w sc sd i h g v o =
      then_same (then_alike truth_of (value_two F a s w sc sd i.0 h g v.0 (part_of (λ n. n.0) o))) (λ holds. if_agrees holds (value_two F x s w sc sd i.1 h g v.1 (part_of (λ n. n.1) o)) (value_two F y s w sc sd i.2 h g v.2 (part_of (λ n. n.2) o)))
  value_two F (t.Field a f at) s w sc sd i h g v o = then_same (then_alike ref_of (value_two F a s w sc sd i h g v o)) (read_agrees (under_near h) sc sd f at)
  value_two F (t.Old a) s w sc sd i h g v (inl none) = absurd none
  value_two F (t.Old a) s w sc sd i h g v (inr (inl same)) = one_old a sc sd v same.0 same.1
  value_two F (t.Old a) s w sc sd i h g v (inr (inr close)) = value_two (nobody sd.old) a sc.old sd.old sc sd i (close_under sd.old close) g v (inr (inr close))
  value_two F (t.Unfolding p) s w sc sd i h g v o = unfolded_two F p s w sc sd i h g v o

  unfolded_two : (F : Rest) (p : t.Opened) (s w : State) (sc sd : Scene) → IsProperOpened Unbounded p → Under F s w → IsProperScene Unbounded sc → AgreeOn sc.store sd.store (t.Unfolding p) → OpenedHasNoOld p ⊎ OldsAgree sc sd →
      AreClose IsSame (unfolded Unbounded p s sc) (unfolded Unbounded p w sd)
  unfolded_two F (t.opened p args amount body inner at) s w sc sd i h g v o =
      then_proper (All (IsProperValue Unbounded)) (values_two F args s w sc sd i.0 h g v.0 (part_of (λ n. n.0) o)) (values_proper args s sc i.0 h.less.whole.proper g) (λ vs in_vs.
      then_proper (IsProperFraction Unbounded) (then_alike perm_of (value_two F amount s w sc sd i.1 h g v.1 (part_of (λ n. n.1) o))) (perm_proper amount s sc i.1 h.less.whole.proper g) (λ q in_q.
      then_same (agrees_self (found (key_of vs))) (λ key.
      then_agrees (taken_two F sc sd p key q at in_q.reduced h) (λ less more under.
      then_proper (IsProperContent Unbounded) (content_same F p key h) (content_proper {E = AllOfEvent (IsProperFraction Unbounded) (IsProperValue Unbounded) (IsProperKey Unbounded) (IsProperContent Unbounded)} p key h.less) (λ c in_c.
      then_agrees (opened_two F body c less more (with_variables vs sc) (with_variables vs sd) q i.2 in_c under.0 (record { store = in_vs; old = g.old }) (assertion_itself_agrees vs body) (part_of (λ n. n.2) o) (amount_is q in_q.reduced under.1)) (λ copy other near.
      value_two F inner copy other sc sd i.3 near g v.2 (part_of (λ n. n.3) o)))))))

  pub values_two : (F : Rest) (es : t.Exprs) (s w : State) (sc sd : Scene) → AreProperExprs Unbounded es → Under F s w → IsProperScene Unbounded sc → AgreeOnAll sc.store sd.store es → HaveNoOld es ⊎ OldsAgree sc sd →
      AreClose IsSame (values Unbounded es s sc) (values Unbounded es w sd)
  values_two F t.none s w sc sd i h g v o = is_agrees refl
  values_two F (t.more e es) s w sc sd i h g v o = then_same (value_two F e s w sc sd i.0 h g v.0 (part_of (λ n. n.0) o)) (λ x. then_same (values_two F es s w sc sd i.1 h g v.1 (part_of (λ n. n.1) o)) (λ vs. is_agrees refl))

  pub amount_two : (F : Rest) (m : t.Amt) (s w : State) (sc sd : Scene) → IsProperAmount Unbounded m → Under F s w → IsProperScene Unbounded sc → AgreeOnAmount sc.store sd.store m → AmountHasNoOld m ⊎ OldsAgree sc sd →
      AreClose IsSame (amount_of Unbounded m s sc) (amount_of Unbounded m w sd)
  amount_two F (t.Is e) s w sc sd i h g v o = then_alike perm_of (value_two F e s w sc sd i h g v o)
  amount_two F t.Wildcard s w sc sd i h g v o = blocked

  pub opened_two : (F : Rest) (a : t.Assertion) (c : Content) (s w : State) (sc sd : Scene) (scale : Fraction) → IsProperAssertion Unbounded a → IsProperContent Unbounded c → Under F s w → IsProperScene Unbounded sc →
      AgreeOnAssertion sc.store sd.store a → AssertionHasNoOld a ⊎ OldsAgree sc sd → IsAmount scale → AreClose (Under F) (opened Unbounded a c s sc scale) (opened Unbounded a c w sd scale)
  opened_two F (t.Fact a at) c s w sc sd scale i j h g v o l = then_same (then_alike truth_of (value_two F a s w sc sd i h g v o)) (λ holds. if_agrees holds (nothing_two F c h) blocked)
  opened_two F (t.Acc a f m at) c s w sc sd scale i j h g v o l =
      then_same (then_alike ref_of (value_two F a s w sc sd i.0 h g v.0 (part_of (λ n. n.0) o))) (λ r.
      then_proper (IsProperFraction Unbounded) (amount_two F m s w sc sd i.1 h g v.1 (part_of (λ n. n.1) o)) (amount_proper m s sc i.1 h.less.whole.proper g) (λ q in_q. fill_place_two F sc sd scale f r q c at l in_q.reduced j h))
  opened_two F (t.Inst p args m at) c s w sc sd scale i j h g v o l =
      then_same (then_alike (λ vs. found (key_of vs)) (values_two F args s w sc sd i.0 h g v.0 (part_of (λ n. n.0) o))) (λ key.
      then_proper (IsProperFraction Unbounded) (amount_two F m s w sc sd i.1 h g v.1 (part_of (λ n. n.1) o)) (amount_proper m s sc i.1 h.less.whole.proper g) (λ q in_q. fill_instance_two F sc sd scale p key q c at l in_q.reduced j h))
  opened_two F (t.And x y) c s w sc sd scale i j h g v o l =
      then_proper (λ p. IsProperContent Unbounded p.0 × IsProperContent Unbounded p.1) (agrees_self (pair_of c)) (parts_proper c j) (λ parts in_parts.
      then_agrees (opened_two F x parts.0 s w sc sd scale i.0 in_parts.0 h g v.0 (part_of (λ n. n.0) o) l) (λ u z under. opened_two F y parts.1 u z sc sd scale i.1 in_parts.1 under g v.1 (part_of (λ n. n.1) o) l))
  opened_two F (t.Implies a x) c s w sc sd scale i j h g v o l =
      then_same (then_alike truth_of (value_two F a s w sc sd i.0 h g v.0 (part_of (λ n. n.0) o))) (λ holds. if_agrees holds (opened_two F x c s w sc sd scale i.1 j h g v.1 (part_of (λ n. n.1) o) l) (nothing_two F c h))
  opened_two F (t.ChooseAssertion a x y) c s w sc sd scale i j h g v o l =
      then_same (then_alike truth_of (value_two F a s w sc sd i.0 h g v.0 (part_of (λ n. n.0) o))) (λ holds.
      if_agrees holds (opened_two F x c s w sc sd scale i.1 j h g v.1 (part_of (λ n. n.1) o) l) (opened_two F y c s w sc sd scale i.2 j h g v.2 (part_of (λ n. n.2) o) l))

-- ---- in one scene, beside nobody

same_olds : {P : Type 0} (sc : Scene) → P ⊎ OldsAgree sc sc
same_olds sc = inr (inl (refl, refl))

pub value_close : (e : t.Expr) (s w : State) (sc : Scene) → IsProperExpr Unbounded e → Close s w → IsProperScene Unbounded sc → AreClose IsSame (value Unbounded e s sc) (value Unbounded e w sc)
value_close e s w sc i h g = value_two (nobody w) e s w sc sc i (close_under w h) g (itself_agrees sc.store e) (same_olds sc)

pub values_close : (es : t.Exprs) (s w : State) (sc : Scene) → AreProperExprs Unbounded es → Close s w → IsProperScene Unbounded sc → AreClose IsSame (values Unbounded es s sc) (values Unbounded es w sc)
values_close es s w sc i h g = values_two (nobody w) es s w sc sc i (close_under w h) g (all_itself_agree sc.store es) (same_olds sc)

pub opened_close : (a : t.Assertion) (c : Content) (s w : State) (sc : Scene) (scale : Fraction) → IsProperAssertion Unbounded a → IsProperContent Unbounded c → Close s w → IsProperScene Unbounded sc → IsAmount scale →
    AreClose Close (opened Unbounded a c s sc scale) (opened Unbounded a c w sc scale)
opened_close a c s w sc scale i j h g l =
    agrees_weaker (λ u v. under_close) (opened_two (nobody w) a c s w sc sc scale i j (close_under w h) g (assertion_itself_agrees sc.store a) (same_olds sc) l)
