-- What is held: reading after setting, states that are whole, and states of which one holds a part of what the other holds.
use Rattle.std.proofs.Common.{◌≡◌, inl, inr, refl, sym, ap, ◌∙◌, subst, ℕ, zero, suc, ◌==◌, Bool, true, false, ◌&&◌, Option, Some, None, is_some, IfSome, List, All, length, replicate, slice_get, if◌then◌else◌}
use Rattle.std.specs.Prelude.{⊤}
use Rattle.std.specs.Bool.{Decides}
use Rattle.std.specs.Option.{option_map}
use Rattle.std.specs.Ordering.{nat_cmp, is_eq}
use Rattle.std.specs.declared.cmp.Ordering.{Ordering}
use Rattle.std.proofs.lemmas.Bool.{true≢false}
use Rattle.std.proofs.lemmas.Bool.Decides.{Decides-eqb}
use Rattle.std.proofs.lemmas.List.Elements.{All-nil, All-cons}
use Rattle.lemmas.proofs.Orders.{is_equal}
use Rattle.sparse.specs.Map.{Map, empty, get, IsReduced}
use Rattle.sparse.specs.Meaning.{IsExact}
use Rattle.sparse.proofs.MapLaws.{IsReduced-empty, IsReduced-set}
use Rattle.vb_value.specs.Bound.{Unbounded}
use Rattle.vb_value.specs.Fraction.{Fraction, none, sum, IsProperFraction}
use Rattle.vb_value.specs.Key.{key_cmp}
use Rattle.vb_value.specs.Layout.{Layout}
use Rattle.vb_value.specs.Value.{fraction_eq}
use Rattle.vb_value.proofs.KeyLaws.{same_from_key_cmp, key_cmp_self}
use Rattle.vb_value.proofs.ReducedLaws.{proper_fraction, proper_key}
use Rattle.viper_state.specs.State.{Key, Memo, State, empty_state, found_at, value_at, content_at, changed, changed_at}
use Rattle.viper_state.specs.Within.{IsProperMemo, IsProperState, IsNonnegative, IsNotNegative}
use Rattle.viper_state.proofs.EachLaws.{mask_has, amount_has, mask_not_negative, amount_not_negative, with_mask_has, with_amount_has, with_mask_nonnegative, with_amount_nonnegative, empty_state_has, empty_state_nonnegative}
use Rattle.viper_state.proofs.MapLaws.{exact_masks, exact_amounts}
use Rattle.viper_state.proofs.Paired.{All-found, All-changed, found_same, found_elsewhere}
use Rattle.viper_meaning.specs.Resource.{Resource, Place, Instance, held_at, with_held}
use Rattle.viper_meaning.specs.Sat.{is_same}
use Rattle.viper_meaning.proofs.PartLaws.{IsAmount, IsPartOf, amount_none, part_sum, part_self, part_trans}

-- nothing is held but at some keys, and the map is written in one way only
pub record IsHeld {K : Type 0} (cmp : K → K → Ordering) (m : Map K Fraction) : Type 0 where
  pub default : m.default ≡ none
  pub reduced : IsReduced cmp fraction_eq m

pub record IsWhole (s : State) : Type 0 where
  pub proper : IsProperState Unbounded s
  pub nonnegative : IsNonnegative s
  pub mask : All (IsHeld nat_cmp) s.mask
  pub amount : All (IsHeld key_cmp) s.amount

-- ---- what is held is an amount

pub if_some : {X : Type 0} (P : X → Type 0) {o : Option X} {x : X} → IfSome o P → o ≡ Some x → P x
if_some P {o = o} h e = subst (λ z. IfSome z P) e h

pub held_amount : {s : State} → IsWhole s → (x : Resource) (q : Fraction) → held_at s x ≡ Some q → IsAmount q
held_amount h (Place f r) q e = record { reduced = (if_some (IsProperFraction Unbounded) (mask_has h.proper f r) e).reduced; not_negative = if_some IsNotNegative (mask_not_negative h.nonnegative f r) e }
held_amount h (Instance p key) q e = record { reduced = (if_some (IsProperFraction Unbounded) (amount_has h.proper p key) e).reduced; not_negative = if_some IsNotNegative (amount_not_negative h.nonnegative p key) e }

-- ---- reading after setting

pub option_same : {X : Type 0} (o : Option X) → option_map (λ x. x) o ≡ o
option_same (Some x) = refl
option_same None = refl

module _ {K V : Type 0} {cmp : K → K → Ordering} {eq : V → V → Bool} (x : IsExact cmp eq) (maps : List (Map K V)) (n : ℕ) (reduced_map : IfSome (slice_get maps n) (IsReduced cmp eq)) (k : K) (new : V) where
  same_by : (o : Option (Map K V)) → slice_get maps n ≡ o → IfSome o (IsReduced cmp eq) → found_at cmp (changed_at cmp eq maps n k new) n k ≡ option_map (λ h. new) (found_at cmp maps n k)
  same_by (Some m) e h = found_same x maps n k new m e h ∙ sym (ap (option_map (λ h. new)) (ap (option_map (λ l. get cmp l k)) e))
  same_by None e h = ap (λ o. found_at cmp (changed cmp eq maps n k new o) n k) e ∙ ap (option_map (λ l. get cmp l k)) e ∙ sym (ap (option_map (λ h. new)) (ap (option_map (λ l. get cmp l k)) e))

  -- the value at every place, after one was set
  pub set_read : (g : ℕ) (q : K) (a b : Bool) → Decides a (g ≡ n) → Decides b (q ≡ k) → found_at cmp (changed_at cmp eq maps n k new) g q ≡ option_map (λ h. if a && b then new else h) (found_at cmp maps g q)
  set_read g q true true d e =
      let at = d.0 refl in
      let key = e.0 refl in
      ap (λ i. found_at cmp (changed_at cmp eq maps n k new) i q) at ∙ ap (λ i. found_at cmp (changed_at cmp eq maps n k new) n i) key ∙ same_by (slice_get maps n) refl reduced_map ∙
      sym (ap (option_map (λ h. new)) (ap (λ i. found_at cmp maps i q) at ∙ ap (λ i. found_at cmp maps n i) key))
  set_read g q true false d e = found_elsewhere x maps n g k q new reduced_map (inr (λ same. true≢false (sym (e.1 (sym same))))) ∙ sym (option_same (found_at cmp maps g q))
  set_read g q false b d e = found_elsewhere x maps n g k q new reduced_map (inl (λ same. true≢false (sym (d.1 (sym same))))) ∙ sym (option_same (found_at cmp maps g q))

  -- nothing changes where the value was there
  pub set_nothing : found_at cmp maps n k ≡ Some new → (g : ℕ) (q : K) (a b : Bool) → Decides a (g ≡ n) → Decides b (q ≡ k) → found_at cmp (changed_at cmp eq maps n k new) g q ≡ found_at cmp maps g q
  set_nothing there g q true true d e =
      let at = d.0 refl in
      let key = e.0 refl in
      let here : found_at cmp maps g q ≡ Some new = ap (λ i. found_at cmp maps i q) at ∙ ap (λ i. found_at cmp maps n i) key ∙ there in
      set_read g q true true d e ∙ ap (option_map (λ h. new)) here ∙ sym here
  set_nothing there g q true false d e = set_read g q true false d e ∙ option_same (found_at cmp maps g q)
  set_nothing there g q false b d e = set_read g q false b d e ∙ option_same (found_at cmp maps g q)

reduced_held : {K : Type 0} {cmp : K → K → Ordering} (maps : List (Map K Fraction)) (n : ℕ) → All (IsHeld cmp) maps → IfSome (slice_get maps n) (IsReduced cmp fraction_eq)
reduced_held {K} {cmp} maps n each = weaker (slice_get maps n) (All-found (IsHeld cmp) maps n each)
  where
    weaker : (o : Option (Map K Fraction)) → IfSome o (IsHeld cmp) → IfSome o (IsReduced cmp fraction_eq)
    weaker (Some m) h = h.reduced
    weaker None h = tt

pub Decides-key : (k l : Key) → Decides (is_eq (key_cmp k l)) (k ≡ l)
Decides-key k l = (λ e. same_from_key_cmp k l (is_equal (key_cmp k l) e), λ e. ap is_eq (ap (key_cmp k) (sym e) ∙ key_cmp_self k))

-- the old and the new amounts of every resource
pub held_with : {s : State} → IsWhole s → (x : Resource) (new : Fraction) (y : Resource) → held_at (with_held s x new) y ≡ option_map (λ h. if is_same y x then new else h) (held_at s y)
held_with {s} h (Place f r) new (Place g q) = set_read exact_masks s.mask f (reduced_held s.mask f h.mask) r new g q (g == f) (q == r) (Decides-eqb g f) (Decides-eqb q r)
held_with {s} h (Place f r) new (Instance p k) = sym (option_same (held_at s (Instance p k)))
held_with {s} h (Instance p k) new (Place g q) = sym (option_same (held_at s (Place g q)))
held_with {s} h (Instance p k) new (Instance o l) = set_read exact_amounts s.amount p (reduced_held s.amount p h.amount) k new o l (o == p) (is_eq (key_cmp l k)) (Decides-eqb o p) (Decides-key l k)

-- ---- states stay whole

set_held : {K : Type 0} {cmp : K → K → Ordering} (x : IsExact cmp fraction_eq) (maps : List (Map K Fraction)) (n : ℕ) (k : K) (q : Fraction) → All (IsHeld cmp) maps → All (IsHeld cmp) (changed_at cmp fraction_eq maps n k q)
set_held {cmp = cmp} x maps n k q h = All-changed cmp fraction_eq (IsHeld cmp) maps n k q h (λ m i. record { default = i.default; reduced = IsReduced-set x.total m i.reduced k q })

pub with_held_whole : {s : State} → IsWhole s → (x : Resource) (q : Fraction) → IsAmount q → IsWhole (with_held s x q)
with_held_whole {s} h (Place f r) q a = record {
  proper = with_mask_has h.proper f r q (proper_fraction q a.reduced);
  nonnegative = with_mask_nonnegative h.nonnegative f r q a.not_negative;
  mask = set_held exact_masks s.mask f r q h.mask;
  amount = h.amount;
}
with_held_whole {s} h (Instance p k) q a = record {
  proper = with_amount_has h.proper p k q (proper_key k) (proper_fraction q a.reduced);
  nonnegative = with_amount_nonnegative h.nonnegative p k q a.not_negative;
  mask = h.mask;
  amount = set_held exact_amounts s.amount p k q h.amount;
}

All-replicate : {X : Type 0} (P : X → Type 0) (x : X) (n : ℕ) → P x → All P (replicate n x)
All-replicate P x zero h = All-nil P
All-replicate P x (suc n) h = All-cons P x (replicate n x) h (All-replicate P x n h)

pub empty_whole : (l : Layout) (m : Memo) → IsProperMemo Unbounded m → IsWhole (empty_state l m)
empty_whole l m h = record {
  proper = empty_state_has l m h (proper_fraction none amount_none.reduced);
  nonnegative = empty_state_nonnegative l m;
  mask = All-replicate (IsHeld nat_cmp) (empty none) (length l.fields) (record { default = refl; reduced = IsReduced-empty exact_masks.total none });
  amount = All-replicate (IsHeld key_cmp) (empty none) (length l.keys) (record { default = refl; reduced = IsReduced-empty exact_amounts.total none });
}

-- nothing is held in an empty state
module _ {K : Type 0} (cmp : K → K → Ordering) (k : K) where
  none_in : (o : Option (Map K Fraction)) (q : Fraction) → IfSome o (λ m. m ≡ empty none) → option_map (λ m. get cmp m k) o ≡ Some q → q ≡ none
  none_in (Some m) q h e =
      let found : Some (get cmp m k) ≡ Some q = e in
      let value : get cmp m k ≡ q = cc in
      sym value ∙ ap (λ n. get cmp n k) h
  none_in None q h e = cc

  none_there : (n i : ℕ) (q : Fraction) → found_at cmp (replicate n (empty none)) i k ≡ Some q → q ≡ none
  none_there n i q e = none_in (slice_get (replicate n (empty none)) i) q (All-found (λ m. m ≡ empty none) (replicate n (empty none)) i (All-replicate (λ m. m ≡ empty none) (empty none) n refl)) e

pub empty_holds_none : (l : Layout) (m : Memo) (x : Resource) (q : Fraction) → held_at (empty_state l m) x ≡ Some q → q ≡ none
empty_holds_none l m (Place f r) q e = none_there nat_cmp r (length l.fields) f q e
empty_holds_none l m (Instance p k) q e = none_there key_cmp k (length l.keys) p q e

-- ---- a part is held

abbrev pub HeldPart : Option Fraction → Option Fraction → Type 0
HeldPart (Some p) (Some q) = IsPartOf p q
HeldPart None None = ⊤
HeldPart _ _ = ⊥

-- the same values and contents, and of each resource a part of what the other state holds
pub record Near (s w : State) : Type 0 where
  pub values : (f r : ℕ) → value_at s f r ≡ value_at w f r
  pub contents : (p : ℕ) (k : Key) → content_at s p k ≡ content_at w p k
  pub held : (x : Resource) → HeldPart (held_at s x) (held_at w x)

held_part_self : (o : Option Fraction) → ((q : Fraction) → o ≡ Some q → IsAmount q) → HeldPart o o
held_part_self (Some q) h = part_self (h q refl)
held_part_self None h = tt

held_part_trans : (o p q : Option Fraction) → HeldPart o p → HeldPart p q → HeldPart o q
held_part_trans (Some x) (Some y) (Some z) h g = part_trans h g
held_part_trans None None None h g = tt
held_part_trans (Some x) (Some y) None h g = absurd g
held_part_trans (Some x) None q h g = absurd h
held_part_trans None (Some y) q h g = absurd h
held_part_trans None None (Some z) h g = absurd g

pub near_self : {s : State} → IsWhole s → Near s s
near_self {s} h = record { values = λ f r. refl; contents = λ p k. refl; held = λ x. held_part_self (held_at s x) (held_amount h x) }

pub near_trans : {s t u : State} → Near s t → Near t u → Near s u
near_trans {s} {t} {u} h g = record {
  values = λ f r. h.values f r ∙ g.values f r;
  contents = λ p k. h.contents p k ∙ g.contents p k;
  held = λ x. held_part_trans (held_at s x) (held_at t x) (held_at u x) (h.held x) (g.held x);
}

-- what holds a part is there in both
pub part_there : (o p : Option Fraction) (q : Fraction) → HeldPart o p → o ≡ Some q → is_some p ≡ true
part_there (Some x) (Some y) q h e = refl
part_there (Some x) None q h e = absurd h
part_there None p q h e = cc

grown_part : (o : Option Fraction) (same : Bool) (held q : Fraction) → ((p : Fraction) → o ≡ Some p → IsAmount p) → (same ≡ true → o ≡ Some held) → IsAmount q → HeldPart o (option_map (λ h. if same then sum held q else h) o)
grown_part None same held q h e a = tt
grown_part (Some p) false held q h e a = part_self (h p refl)
grown_part (Some p) true held q h e a =
    let found : Some p ≡ Some held = e refl in
    let equal : p ≡ held = cc in
    subst (λ z. IsPartOf p (sum z q)) equal (part_sum (h p refl) a)

-- the two are one resource
pub same_resource : (y x : Resource) → is_same y x ≡ true → y ≡ x
same_resource (Place f r) (Place g q) e = both (f == g) (r == q) e (Decides-eqb f g) (Decides-eqb r q)
  where
    both : (a b : Bool) → a && b ≡ true → Decides a (f ≡ g) → Decides b (r ≡ q) → Place f r ≡ Place g q
    both true true e d c = ap (λ n. Place n r) (d.0 refl) ∙ ap (Place g) (c.0 refl)
    both true false e d c = cc
    both false b e d c = cc
same_resource (Instance p k) (Instance o l) e = both (p == o) (is_eq (key_cmp k l)) e (Decides-eqb p o) (Decides-key k l)
  where
    both : (a b : Bool) → a && b ≡ true → Decides a (p ≡ o) → Decides b (k ≡ l) → Instance p k ≡ Instance o l
    both true true e d c = ap (λ n. Instance n k) (d.0 refl) ∙ ap (Instance o) (c.0 refl)
    both true false e d c = cc
    both false b e d c = cc
same_resource (Place f r) (Instance p k) e = cc
same_resource (Instance p k) (Place f r) e = cc

pub with_held_values : (s : State) (x : Resource) (q : Fraction) (f r : ℕ) → value_at (with_held s x q) f r ≡ value_at s f r
with_held_values s (Place g y) q f r = refl
with_held_values s (Instance p k) q f r = refl

pub with_held_contents : (s : State) (x : Resource) (q : Fraction) (p : ℕ) (k : Key) → content_at (with_held s x q) p k ≡ content_at s p k
with_held_contents s (Place g y) q p k = refl
with_held_contents s (Instance o l) q p k = refl

-- where so much more is held, a part was held before
pub near_grown : {s : State} → IsWhole s → (x : Resource) (held q : Fraction) → held_at s x ≡ Some held → IsAmount q → Near s (with_held s x (sum held q))
near_grown {s} h x held q e a = record {
  values = λ f r. sym (with_held_values s x (sum held q) f r);
  contents = λ p k. sym (with_held_contents s x (sum held q) p k);
  held = λ y. subst (HeldPart (held_at s y)) (sym (held_with h x (sum held q) y)) (grown_part (held_at s y) (is_same y x) held q (held_amount h y) (λ same. ap (held_at s) (same_resource y x same) ∙ e) a);
}
