-- Producing an assertion reaches the state that satisfies it, or fails.
use Rattle.std.proofs.Common.{◌≡◌, refl, sym, ap, ◌∙◌, subst, ℕ, suc, ◌==◌, Bool, true, false, not, ◌&&◌, Option, Some, None, is_some, List, [], ◌∷◌, ◌++◌, map, All, append_assoc, if◌then◌else◌}
use Rattle.std.proofs.lemmas.Bool.{true≢false}
use Rattle.std.proofs.lemmas.List.{map-append}
use Rattle.std.proofs.lemmas.Bool.Decides.{Decides-eqb}
use Rattle.std.proofs.lemmas.List.Elements.{All-nil, All-cons, All-head, All-tail, All-append}
use Rattle.std.specs.Option.{option_map}
use Rattle.std.specs.Ordering.{nat_cmp, is_eq}
use Rattle.std.specs.declared.cmp.Ordering.{Ordering}
use Rattle.lemmas.proofs.Lists.{all_left, all_right}
use Rattle.sparse.specs.Map.{Map, get}
use Rattle.sparse.specs.Meaning.{IsExact}
use Rattle.sparse.proofs.MapLaws.{map_from_get}
use Rattle.vb_base.specs.declared.labels.Kind.TheVariants as kind
use Rattle.vb_base.specs.declared.places.Pos.{Pos}
use Rattle.vb_value.specs.Bound.{Unbounded}
use Rattle.vb_value.specs.Fraction.{Fraction, IsReduced, IsProperFraction, none, write, sum, product, is_negative, is_positive, is_none}
use Rattle.vb_value.specs.Key.{key_cmp}
use Rattle.vb_value.specs.Value.{fraction_eq}
use Rattle.vb_value.proofs.OperationLaws.{product-one, sum-zero}
use Rattle.vb_value.proofs.SignLaws.{positive_not_negative}
use Rattle.viper_core.specs.Expr as t
use Rattle.viper_core.specs.Literals.{IsProperExpr, IsProperAmount, IsProperAssertion}
use Rattle.viper_state.specs.Choice as choice
use Rattle.viper_state.specs.Choice.{Choice}
use Rattle.viper_state.specs.Event as event
use Rattle.viper_state.specs.Event.{Event}
use Rattle.viper_state.specs.State.{State, found_at}
use Rattle.viper_state.specs.Run.{Scene}
use Rattle.viper_state.specs.Within.{IsProperState, IsProperScene}
use Rattle.viper_state.proofs.MapLaws.{exact_masks, exact_amounts}
use Rattle.viper_meaning.specs.Assertions.{more_held, given_to, some_given_to, produce_amount, produce}
use Rattle.viper_meaning.specs.Ends as m
use Rattle.viper_meaning.specs.Ends.{Evaluated, ends, is, fails, blocks, after, then_with, found, unless}
use Rattle.viper_meaning.specs.Operators.{truth_of, perm_of, ref_of}
use Rattle.viper_meaning.specs.Places.{added, key_of}
use Rattle.viper_meaning.specs.Resource.{Resource, Place, Instance, held_at, with_held, is_null, is_too_much}
use Rattle.viper_meaning.specs.Run.{Run, goes, before, evaluating, then_do, Goes, Fails, Blocked, Short, Over, Ran, ran, leaving, since, on, then_ran}
use Rattle.viper_meaning.specs.Sat as sat
use Rattle.viper_meaning.specs.Sat.{Has, Share, is_same, total_from, CanBeHeld, DenotesAmount, Denotes, Arrives}
use Rattle.viper_meaning.specs.Value.{truth_in, perm_in}
use Rattle.viper_meaning.proofs.AgreeLaws.{Agrees, failed, over, both, blocked, lost, IsSame, then_alike}
use Rattle.viper_meaning.proofs.EveryLaws.{kept_value}
use Rattle.viper_meaning.proofs.HeldLaws.{IsHeld, HeldPart, held_amount, held_with, option_same, same_resource, Decides-key}
use Rattle.viper_meaning.proofs.NearLaws.{IsFull, Close, full_with_held}
use Rattle.viper_meaning.proofs.OpenedLaws.{value_close, values_close}
use Rattle.viper_meaning.proofs.ReadLaws.{perm_proper}
use Rattle.viper_meaning.proofs.PartLaws.{IsAmount, IsPartOf, amount_none, whole_amount, part_self, part_sum, part_trans, amount_sum, part_not_above, is_none_itself, positive_from_some}
use Rattle.viper_meaning.proofs.RunLaws.{on-before, on-then}
use Rattle.viper_meaning.proofs.UnderLaws.{IsAmountShare}

-- ---- one lemma for each way to go on

arrives_since : {X : Type 0} (P : X → Type 0) (left : List Choice) (es : List Event) (r : Ran X) → Arrives P left r → Arrives P left (since es r)
arrives_since P left es (ran fs (Goes x) rest) h = h
arrives_since P left es (ran fs (Fails l) rest) h = tt
arrives_since P left es (ran fs Blocked rest) h = absurd h
arrives_since P left es (ran fs Short rest) h = absurd h
arrives_since P left es (ran fs (Over at) rest) h = tt

arrives_after : {X : Type 0} (P : X → Type 0) (left choices : List Choice) (es : List Event) (e : Evaluated X) → Arrives P left (leaving e choices) → Arrives P left (leaving (after es e) choices)
arrives_after P left choices es (ends fs (m.Is x)) h = h
arrives_after P left choices es (ends fs (m.Fails l)) h = tt
arrives_after P left choices es (ends fs m.Blocked) h = absurd h
arrives_after P left choices es (ends fs (m.Over at)) h = tt

arrives_before : {X : Type 0} (P : X → Type 0) (left choices : List Choice) (es : List Event) (r : Run X) → Arrives P left (on r choices) → Arrives P left (on (before es r) choices)
arrives_before P left choices es r h = subst (Arrives P left) (sym (on-before es r choices)) (arrives_since P left es (on r choices) h)

-- with more the value is known
arrives_evaluating : {X Y : Type 0} (P : Y → Type 0) (left choices : List Choice) {e f : Evaluated X} (x : X) (go : X → Run Y) → Agrees (Unit {0}) IsSame e f → Has x f → Arrives P left (on (go x) choices) →
    Arrives P left (on (evaluating e go) choices)
arrives_evaluating P left choices x go failed has h = tt
arrives_evaluating P left choices x go over has h = tt
arrives_evaluating P left choices x go (both {es = es} {x = z} {y = y} same) has h =
    let equal : y ≡ x = cc in
    arrives_before P left choices es (go z) (subst (λ w. Arrives P left (on (go w) choices)) (sym (same ∙ equal)) h)
arrives_evaluating P left choices x go blocked has h = cc
arrives_evaluating P left choices x go (lost u) has h = cc

arrives_then_with : {X Y : Type 0} (P : Y → Type 0) (left choices : List Choice) {e f : Evaluated X} (x : X) (go : X → Evaluated Y) → Agrees (Unit {0}) IsSame e f → Has x f → Arrives P left (leaving (go x) choices) →
    Arrives P left (leaving (then_with e go) choices)
arrives_then_with P left choices x go failed has h = tt
arrives_then_with P left choices x go over has h = tt
arrives_then_with P left choices x go (both {es = es} {x = z} {y = y} same) has h =
    let equal : y ≡ x = cc in
    arrives_after P left choices es (go z) (subst (λ w. Arrives P left (leaving (go w) choices)) (sym (same ∙ equal)) h)
arrives_then_with P left choices x go blocked has h = cc
arrives_then_with P left choices x go (lost u) has h = cc

arrives_ran : {X Y : Type 0} (Q : X → Type 0) (P : Y → Type 0) (mid left : List Choice) (r : Ran X) (go : X → List Choice → Ran Y) → Arrives Q mid r → ((x : X) → Q x → Arrives P left (go x mid)) → Arrives P left (then_ran r go)
arrives_ran Q P mid left (ran es (Goes x) rest) go h g = arrives_since P left es (go x rest) (subst (λ cs. Arrives P left (go x cs)) (sym h.1) (g x h.0))
arrives_ran Q P mid left (ran es (Fails l) rest) go h g = tt
arrives_ran Q P mid left (ran es Blocked rest) go h g = absurd h
arrives_ran Q P mid left (ran es Short rest) go h g = absurd h
arrives_ran Q P mid left (ran es (Over at) rest) go h g = tt

arrives_then : {X Y : Type 0} (Q : X → Type 0) (P : Y → Type 0) (choices mid left : List Choice) (r : Run X) (go : X → Run Y) → Arrives Q mid (on r choices) → ((x : X) → Q x → Arrives P left (on (go x) mid)) →
    Arrives P left (on (then_do r go) choices)
arrives_then Q P choices mid left r go h g = subst (Arrives P left) (sym (on-then r go choices)) (arrives_ran Q P mid left (on r choices) (λ x. on (go x)) h g)

-- ---- shares

part_if_same : (x : Resource) (h : Fraction) (b : Bool) (q : Fraction) → IsAmount h → IsAmount q → IsPartOf h (if b then sum h q else h)
part_if_same x h true q a g = part_sum a g
part_if_same x h false q a g = part_self a

amount_if_same : (h : Fraction) (b : Bool) (q : Fraction) → IsAmount h → IsAmount q → IsAmount (if b then sum h q else h)
amount_if_same h true q a g = amount_sum a g
amount_if_same h false q a g = a

-- what is held before is a part of it with all shares
pub part_total : (x : Resource) (h : Fraction) (xs : List Share) → IsAmount h → All IsAmountShare xs → IsPartOf h (total_from x h xs)
part_total x h [] a g = part_self a
part_total x h (share ∷ xs) a g =
    let one = All-head IsAmountShare share xs g in
    let next = if is_same x share.of then sum h share.amount else h in
    part_trans (part_if_same x h (is_same x share.of) share.amount a one) (part_total x next xs (amount_if_same h (is_same x share.of) share.amount a one) (All-tail IsAmountShare share xs g))

-- ---- a state to which some shares are still to be added

pub record Before (u s : State) (shares : List Share) : Type 0 where
  pub full : IsFull s
  pub heap : s.heap ≡ u.heap
  pub content : s.content ≡ u.content
  pub grown : (x : Resource) → held_at u x ≡ option_map (λ h. total_from x h shares) (held_at s x)
  pub amounts : All IsAmountShare shares

before_close : {u s : State} {xs : List Share} → IsFull u → Before u s xs → Close s u
before_close {u} {s} {xs} full h = record {
  less = h.full;
  more = full;
  near = record {
    values = λ f r. ap (λ maps. found_at nat_cmp maps f r) h.heap;
    contents = λ p k. ap (λ maps. found_at key_cmp maps p k) h.content;
    held = λ x. subst (HeldPart (held_at s x)) (sym (h.grown x)) (by_option x (held_at s x) (held_amount h.full.whole x));
  };
}
  where
    by_option : (x : Resource) (o : Option Fraction) → ((q : Fraction) → o ≡ Some q → IsAmount q) → HeldPart o (option_map (λ h. total_from x h xs) o)
    by_option x (Some q) a = part_total x q xs (a q refl) h.amounts
    by_option x None a = tt

pub same_self : (x : Resource) → is_same x x ≡ true
same_self (Place f r) = both_true (f == f) (r == r) ((Decides-eqb f f).1 refl) ((Decides-eqb r r).1 refl)
  where
    both_true : (a b : Bool) → a ≡ true → b ≡ true → a && b ≡ true
    both_true a b e g = ap (λ z. z && b) e ∙ g
same_self (Instance p k) = both_true (p == p) (is_eq (key_cmp k k)) ((Decides-eqb p p).1 refl) ((Decides-key k k).1 refl)
  where
    both_true : (a b : Bool) → a ≡ true → b ≡ true → a && b ≡ true
    both_true a b e g = ap (λ z. z && b) e ∙ g

pub too_much_part : (x : Resource) {p q : Fraction} → IsPartOf p q → is_too_much x q ≡ false → is_too_much x p ≡ false
too_much_part (Place f r) h e = part_not_above h e
too_much_part (Instance p k) h e = refl

with_held_heap : (s : State) (x : Resource) (q : Fraction) → (with_held s x q).heap ≡ s.heap
with_held_heap s (Place f r) q = refl
with_held_heap s (Instance p k) q = refl

with_held_content : (s : State) (x : Resource) (q : Fraction) → (with_held s x q).content ≡ s.content
with_held_content s (Place f r) q = refl
with_held_content s (Instance p k) q = refl

module _ {u s : State} (x : Resource) (q : Fraction) (is_amount : IsAmount q) (more : List Share) (b : Before u s (record { of = x; amount = q } ∷ more)) where
  still_amounts : All IsAmountShare more
  still_amounts = All-tail IsAmountShare (record { of = x; amount = q }) more b.amounts

  before_next : (held : Fraction) → held_at s x ≡ Some held → Before u (with_held s x (sum held q)) more
  before_next held e = record {
    full = full_with_held b.full x (sum held q) (amount_sum (held_amount b.full.whole x held e) is_amount);
    heap = with_held_heap s x (sum held q) ∙ b.heap;
    content = with_held_content s x (sum held q) ∙ b.content;
    grown = λ y. b.grown y ∙ at_resource y (held_at s y) (is_same y x) (λ same. ap (held_at s) (same_resource y x same) ∙ e) ∙ sym (ap (option_map (λ h. total_from y h more)) (held_with b.full.whole x (sum held q) y));
    amounts = still_amounts;
  }
    where
      at_resource : (y : Resource) (o : Option Fraction) (same : Bool) → (same ≡ true → o ≡ Some held) →
          option_map (λ h. total_from y (if same then sum h q else h) more) o ≡ option_map (λ h. total_from y h more) (option_map (λ h. if same then sum held q else h) o)
      at_resource y None same g = refl
      at_resource y (Some h) false g = refl
      at_resource y (Some h) true g =
          let there : Some h ≡ Some held = g refl in
          let equal : h ≡ held = cc in
          ap (λ z. Some (total_from y (sum z q) more)) equal

  -- nothing is added
  before_none : q ≡ none → Before u s more
  before_none e = record {
    full = b.full;
    heap = b.heap;
    content = b.content;
    grown = λ y. b.grown y ∙ at_resource y (held_at s y) (is_same y x) (held_amount b.full.whole y);
    amounts = still_amounts;
  }
    where
      at_resource : (y : Resource) (o : Option Fraction) (same : Bool) → ((p : Fraction) → o ≡ Some p → IsAmount p) → option_map (λ h. total_from y (if same then sum h q else h) more) o ≡ option_map (λ h. total_from y h more) o
      at_resource y None same g = refl
      at_resource y (Some h) false g = refl
      at_resource y (Some h) true g = ap (λ z. Some (total_from y z more)) (ap (sum h) e ∙ sum-zero h (g h refl).reduced)

  -- it is not too much
  small_enough : (held : Fraction) → held_at s x ≡ Some held → ((y : Resource) (p : Fraction) → held_at u y ≡ Some p → is_too_much y p ≡ false) → is_too_much x (sum held q) ≡ false
  small_enough held e capped =
      let all = total_from x (sum held q) more in
      let there : held_at u x ≡ Some all = b.grown x ∙ ap (option_map (λ h. total_from x (if is_same x x then sum h q else h) more)) e ∙ ap (λ same. Some (total_from x (if same then sum held q else held) more)) (same_self x) in
      too_much_part x (part_total x (sum held q) more (amount_sum (held_amount b.full.whole x held e) is_amount) still_amounts) (capped x all there)

-- the amounts of what is denoted
module _ (u : State) (proper : IsProperState Unbounded u) (sc : Scene) (in_sc : IsProperScene Unbounded sc) where
  reduced_there : (e : t.Expr) → IsProperExpr Unbounded e → (q : Fraction) → Has q (perm_in Unbounded e u sc) → IsReduced q
  reduced_there e i q has = (kept_value {P = IsProperFraction Unbounded} (perm_proper e u sc i proper in_sc) has).reduced

  amounts_of_share : {x : Resource} {m : t.Amt} {qs : List Fraction} {xs : List Share} → DenotesAmount u sc x m qs xs → IsProperAmount Unbounded m → All IsReduced qs → All IsAmountShare xs
  amounts_of_share (sat.exactly {e = e} {q = q} has sign holdable) i h = All-cons IsAmountShare _ [] (record { reduced = reduced_there e i q has; not_negative = sign }) (All-nil IsAmountShare)
  amounts_of_share (sat.something {q = q} sign holdable) i h =
      All-cons IsAmountShare _ [] (record { reduced = All-head IsReduced q [] h; not_negative = positive_not_negative q sign }) (All-nil IsAmountShare)

  pub amounts_of : {a : t.Assertion} {qs : List Fraction} {xs : List Share} → Denotes u sc a qs xs → IsProperAssertion Unbounded a → All IsReduced qs → All IsAmountShare xs
  amounts_of (sat.fact has) i h = All-nil IsAmountShare
  amounts_of (sat.place has d) i h = amounts_of_share d i.1 h
  amounts_of (sat.instance has d) i h = amounts_of_share d i.1 h
  amounts_of (sat.both {ps = ps} {qs = qs} {xs = xs} {ys = ys} d g) i h = All-append IsAmountShare xs ys (amounts_of d i.0 (all_left IsReduced ps qs h)) (amounts_of g i.1 (all_right IsReduced ps qs h))
  amounts_of (sat.counts has d) i h = amounts_of d i.1 h
  amounts_of (sat.does_not_count has) i h = All-nil IsAmountShare
  amounts_of (sat.first has d) i h = amounts_of d i.1 h
  amounts_of (sat.second has d) i h = amounts_of d i.2 h

-- what is held where it is satisfied is an amount
pub total_amount : (x : Resource) (xs : List Share) → All IsAmountShare xs → IsAmount (total_from x none xs)
total_amount x xs h = whole_amount (part_total x none xs amount_none h)

-- ---- the state that is reached

module _ (u : State) (full : IsFull u) (capped : (x : Resource) (q : Fraction) → held_at u x ≡ Some q → is_too_much x q ≡ false) where
  -- so much more is held
  arrives_more : {s : State} (x : Resource) (at : Pos) (q : Fraction) (more : List Share) (left : List Choice) → IsAmount q → CanBeHeld u x → Before u s (record { of = x; amount = q } ∷ more) →
      Arrives (λ t. Before u t more) left (leaving (more_held Unbounded write x at s q) left)
  arrives_more {s} x at q more left a holdable b = real (is_null x) holdable.no_field_of_null
    where
      small : (held : Fraction) (c : Bool) → c ≡ false → held_at s x ≡ Some held →
          Arrives (λ t. Before u t more) left (leaving (unless c blocks (is (with_held s x (sum held (product write q))))) left)
      small held true e there = absurd (true≢false e)
      small held false e there = (subst (λ z. Before u (with_held s x (sum held z)) more) (sym (product-one q a.reduced)) (before_next x q a more b held there), refl)

      there_is : (o : Option Fraction) → held_at s x ≡ o → (p : Option Fraction) → HeldPart o p → is_some p ≡ true →
          Arrives (λ t. Before u t more) left (leaving (then_with (found o) (λ held. then_with (added Unbounded held write q at) (λ all. unless (is_too_much x all) blocks (is (with_held s x all))))) left)
      there_is None e (Some z) h g = absurd h
      there_is None e None h g = absurd (true≢false (sym g))
      there_is (Some held) e p h g =
          let all = sum held (product write q) in
          let go = unless (is_too_much x all) blocks (is (with_held s x all)) in
          let fits : is_too_much x all ≡ false = ap (λ z. is_too_much x (sum held z)) (product-one q a.reduced) ∙ small_enough x q a more b held e capped in
          arrives_after (λ t. Before u t more) left left [] (after [] go) (arrives_after (λ t. Before u t more) left left [] go (small held (is_too_much x all) fits e))

      real : (c : Bool) → c ≡ false →
          Arrives (λ t. Before u t more) left (leaving (unless c blocks (then_with (found (held_at s x)) (λ held. then_with (added Unbounded held write q at) (λ all. unless (is_too_much x all) blocks (is (with_held s x all)))))) left)
      real true e = absurd (true≢false e)
      real false e = there_is (held_at s x) refl (held_at u x) ((before_close full b).near.held x) holdable.there

  -- an amount that is written
  arrives_given : {s : State} (sc : Scene) (x : Resource) (at : Pos) (q : Fraction) (more : List Share) (left : List Choice) → IsReduced q → is_negative q ≡ false → (is_positive q ≡ true → CanBeHeld u x) →
      Before u s (record { of = x; amount = q } ∷ more) → Arrives (λ t. Before u t more) left (leaving (given_to Unbounded sc write x at s q) left)
  arrives_given {s} sc x at q more left reduced sign holdable b = not_negative (is_negative q) sign
    where
      a : IsAmount q
      a = record { reduced = reduced; not_negative = sign }

      some_or_none : (c : Bool) → is_none q ≡ c → Arrives (λ t. Before u t more) left (leaving (if c then is s else more_held Unbounded write x at s q) left)
      some_or_none true e = (before_none x q a more b (is_none_itself q reduced e), refl)
      some_or_none false e = arrives_more x at q more left a (holdable (positive_from_some q sign e)) b

      not_negative : (c : Bool) → c ≡ false → Arrives (λ t. Before u t more) left (leaving (unless c (fails sc at kind.Negative) (if is_none q then is s else more_held Unbounded write x at s q)) left)
      not_negative true e = absurd (true≢false e)
      not_negative false e = some_or_none (is_none q) refl

  -- an amount that was chosen
  arrives_chosen : {s : State} (x : Resource) (at : Pos) (q : Fraction) (more : List Share) (left : List Choice) → IsReduced q → is_positive q ≡ true → CanBeHeld u x →
      Before u s (record { of = x; amount = q } ∷ more) → Arrives (λ t. Before u t more) left (leaving (some_given_to Unbounded write x at s q) left)
  arrives_chosen {s} x at q more left reduced sign holdable b = positive (is_positive q) sign
    where
      positive : (c : Bool) → c ≡ true → Arrives (λ t. Before u t more) left (leaving (unless (not c) blocks (more_held Unbounded write x at s q)) left)
      positive true e = arrives_more x at q more left (record { reduced = reduced; not_negative = positive_not_negative q sign }) holdable b
      positive false e = absurd (true≢false (sym e))

  module _ (sc : Scene) (in_sc : IsProperScene Unbounded sc) where
    arrives_amount : {x : Resource} {m : t.Amt} {qs : List Fraction} {xs : List Share} (at : Pos) → DenotesAmount u sc x m qs xs → IsProperAmount Unbounded m → All IsReduced qs →
        (s : State) (more : List Share) (left : List Choice) → Before u s (xs ++ more) → Arrives (λ t. Before u t more) left (on (produce_amount Unbounded m sc write at s x) (map choice.Amount qs ++ left))
    arrives_amount {x} at (sat.exactly {e = e} {q = q} has sign holdable) i h s more left b =
        arrives_then_with (λ t. Before u t more) left left q (given_to Unbounded sc write x at s) (then_alike perm_of (value_close e s u sc i (before_close full b) in_sc)) has
        (arrives_given sc x at q more left (reduced_there u full.whole.proper sc in_sc e i q has) sign holdable b)
    arrives_amount {x} at (sat.something {q = q} sign holdable) i h s more left b =
        arrives_since (λ t. Before u t more) left [] _ (arrives_after (λ t. Before u t more) left left (event.Wild q ∷ []) (some_given_to Unbounded write x at s q)
        (arrives_chosen x at q more left (All-head IsReduced q [] h) sign holdable b))

    truth_known : (e : t.Expr) (s : State) {xs : List Share} → IsProperExpr Unbounded e → Before u s xs → Agrees (Unit {0}) IsSame (truth_in Unbounded e s sc) (truth_in Unbounded e u sc)
    truth_known e s i b = then_alike truth_of (value_close e s u sc i (before_close full b) in_sc)

    pub arrives : {a : t.Assertion} {qs : List Fraction} {xs : List Share} → Denotes u sc a qs xs → IsProperAssertion Unbounded a → All IsReduced qs → (s : State) (more : List Share) (left : List Choice) →
        Before u s (xs ++ more) → Arrives (λ t. Before u t more) left (on (produce Unbounded a sc write s) (map choice.Amount qs ++ left))
    arrives (sat.fact {e = e} has) i h s more left b =
        arrives_then_with (λ t. Before u t more) left left true (λ holds. if holds then is s else blocks) (truth_known e s i b) has (b, refl)
    arrives (sat.place {e = e} {f = f} {m = m} {at = at} {x = x} {qs = qs} has d) i h s more left b =
        arrives_evaluating (λ t. Before u t more) left (map choice.Amount qs ++ left) x (produce_amount Unbounded m sc write at s)
        (then_alike (λ r. is (Place f r)) (then_alike ref_of (value_close e s u sc i.0 (before_close full b) in_sc))) has (arrives_amount at d i.1 h s more left b)
    arrives (sat.instance {p = p} {args = args} {m = m} {at = at} {x = x} {qs = qs} has d) i h s more left b =
        arrives_evaluating (λ t. Before u t more) left (map choice.Amount qs ++ left) x (produce_amount Unbounded m sc write at s)
        (then_alike (λ key. is (Instance p key)) (then_alike (λ vs. found (key_of vs)) (values_close args s u sc i.0 (before_close full b) in_sc))) has (arrives_amount at d i.1 h s more left b)
    arrives (sat.both {a = x} {b = y} {ps = ps} {qs = qs} {xs = xs} {ys = ys} d g) i h s more left b =
        let mid = map choice.Amount qs ++ left in
        let choices : map choice.Amount ps ++ mid ≡ map choice.Amount (ps ++ qs) ++ left = sym (ap (λ cs. cs ++ left) (map-append choice.Amount ps qs) ∙ append_assoc (map choice.Amount ps) (map choice.Amount qs) left) in
        subst (λ cs. Arrives (λ t. Before u t more) left (on (produce Unbounded (t.And x y) sc write s) cs)) choices
        (arrives_then (λ t. Before u t (ys ++ more)) (λ t. Before u t more) (map choice.Amount ps ++ mid) mid left (produce Unbounded x sc write s) (produce Unbounded y sc write)
        (arrives d i.0 (all_left IsReduced ps qs h) s (ys ++ more) mid (subst (Before u s) (append_assoc xs ys more) b))
        (λ t c. arrives g i.1 (all_right IsReduced ps qs h) t more left c))
    arrives (sat.counts {e = e} {a = x} {qs = qs} has d) i h s more left b =
        arrives_evaluating (λ t. Before u t more) left (map choice.Amount qs ++ left) true (λ holds. if holds then produce Unbounded x sc write s else goes s) (truth_known e s i.0 b) has (arrives d i.1 h s more left b)
    arrives (sat.does_not_count {e = e} {a = x} has) i h s more left b =
        arrives_evaluating (λ t. Before u t more) left left false (λ holds. if holds then produce Unbounded x sc write s else goes s) (truth_known e s i.0 b) has (b, refl)
    arrives (sat.first {e = e} {a = x} {b = y} {qs = qs} has d) i h s more left b =
        arrives_evaluating (λ t. Before u t more) left (map choice.Amount qs ++ left) true (λ holds. if holds then produce Unbounded x sc write s else produce Unbounded y sc write s) (truth_known e s i.0 b) has (arrives d i.1 h s more left b)
    arrives (sat.second {e = e} {a = x} {b = y} {qs = qs} has d) i h s more left b =
        arrives_evaluating (λ t. Before u t more) left (map choice.Amount qs ++ left) false (λ holds. if holds then produce Unbounded x sc write s else produce Unbounded y sc write s) (truth_known e s i.0 b) has (arrives d i.2 h s more left b)

-- ---- where no share is left to come, it is the state itself

module _ {K : Type 0} {cmp : K → K → Ordering} (x : IsExact cmp fraction_eq) (some_key : K) where
  same_maps : (ms ns : List (Map K Fraction)) → All (IsHeld cmp) ms → All (IsHeld cmp) ns → ((n : ℕ) (k : K) → found_at cmp ms n k ≡ found_at cmp ns n k) → ms ≡ ns
  same_maps [] [] h g e = refl
  same_maps [] (n ∷ ns) h g e = let no : None ≡ Some (get cmp n some_key) = e 0 some_key in cc
  same_maps (m ∷ ms) [] h g e = let no : Some (get cmp m some_key) ≡ None = e 0 some_key in cc
  same_maps (m ∷ ms) (n ∷ ns) h g e =
      let in_m = All-head (IsHeld cmp) m ms h in
      let in_n = All-head (IsHeld cmp) n ns g in
      let one : m ≡ n = map_from_get x m n in_m.reduced in_n.reduced (in_m.default ∙ sym in_n.default) (λ k. let at : Some (get cmp m k) ≡ Some (get cmp n k) = e 0 k in cc) in
      let rest : ms ≡ ns = same_maps ms ns (All-tail (IsHeld cmp) m ms h) (All-tail (IsHeld cmp) n ns g) (λ i k. e (suc i) k) in
      ap (λ z. z ∷ ms) one ∙ ap (λ zs. n ∷ zs) rest

pub before_end : {u t : State} → IsFull u → Before u t [] → t ≡ u
before_end {u} {t} full b =
    let mask : t.mask ≡ u.mask = same_maps exact_masks 0 t.mask u.mask b.full.whole.mask full.whole.mask (λ n k. sym (b.grown (Place n k) ∙ option_same (held_at t (Place n k)))) in
    let amount : t.amount ≡ u.amount = same_maps exact_amounts [] t.amount u.amount b.full.whole.amount full.whole.amount (λ n k. sym (b.grown (Instance n k) ∙ option_same (held_at t (Instance n k)))) in
    λ i. record { heap = b.heap i; content = b.content i; mask = mask i; amount = amount i }

pub arrives_at : {X : Type 0} (P Q : X → Type 0) (left : List Choice) → ((x : X) → P x → Q x) → (r : Ran X) → Arrives P left r → Arrives Q left r
arrives_at P Q left go (ran es (Goes x) rest) h = (go x h.0, h.1)
arrives_at P Q left go (ran es (Fails l) rest) h = tt
arrives_at P Q left go (ran es Blocked rest) h = h
arrives_at P Q left go (ran es Short rest) h = h
arrives_at P Q left go (ran es (Over at) rest) h = tt
