-- What holds of each fraction, value, key and content of a state holds where it is read, and is kept where it is set.
use Rattle.std.proofs.Common.{◌≡◌, ℕ, Bool, false, List, Option, Some, None, slice_get, length, refl, All}
use Rattle.std.specs.Option.{option_map, IfSome}
use Rattle.std.specs.Ordering.{nat_cmp}
use Rattle.std.specs.declared.cmp.Ordering.{Ordering}
use Rattle.std.proofs.lemmas.List.Elements.{All-nil, All-replicate}
use Rattle.sparse.specs.Map.{Map, get, set, empty}
use Rattle.sparse.proofs.MapLaws.{All-keys-set, All-values-set, get-All}
use Rattle.vb_value.specs.Content.{Content, same_content}
use Rattle.vb_value.specs.Fraction.{Fraction, none, is_negative}
use Rattle.vb_value.specs.Key.{key_cmp}
use Rattle.vb_value.specs.Layout.{Layout}
use Rattle.vb_value.specs.Value.{value_eq, fraction_eq}
use Rattle.vb_value.specs.declared.values.Value.{Value}
use Rattle.viper_state.specs.State.{Key, Memo, State, empty_state, found_at, value_at, mask_at, content_at, amount_at, with_value, with_mask, with_content, with_amount}
use Rattle.viper_state.specs.Within.{HasValues, HasEntries, AllOfMemo, AllOfState, IsNotNegative, IsNonnegative}
use Rattle.viper_state.proofs.Paired.{All-found, All-changed}

-- ---- one map

module _ {K V : Type 0} (cmp : K → K → Ordering) where
  pub get_has : {Q : V → Type 0} (m : Map K V) (k : K) → HasValues Q m → Q (get cmp m k)
  get_has {Q} m k h = get-All cmp Q m k h.default h.others

  module _ (eq : V → V → Bool) {Q : V → Type 0} (m : Map K V) (k : K) (v : V) where
    pub set_has_values : HasValues Q m → Q v → HasValues Q (set cmp eq m k v)
    set_has_values h q = record { default = h.default; others = All-values-set cmp eq m k v Q h.others q }

    pub set_has_entries : {P : K → Type 0} → HasEntries P Q m → P k → Q v → HasEntries P Q (set cmp eq m k v)
    set_has_entries {P} h p q = record { keys = All-keys-set cmp eq m k v P h.keys p; values = set_has_values h.values q }

pub empty_has_values : {K V : Type 0} {Q : V → Type 0} (z : V) → Q z → HasValues Q (empty {K = K} z)
empty_has_values {Q = Q} z q = record { default = q; others = All-nil Q }

pub empty_has_entries : {K V : Type 0} {P : K → Type 0} {Q : V → Type 0} (z : V) → Q z → HasEntries P Q (empty z)
empty_has_entries {P = P} z q = record { keys = All-nil P; values = empty_has_values z q }

-- ---- what is found

found_has_by : {K V : Type 0} (cmp : K → K → Ordering) (P : Map K V → Type 0) (Q : V → Type 0) → ((m : Map K V) (k : K) → P m → Q (get cmp m k)) → (k : K) (o : Option (Map K V)) → IfSome o P → IfSome (option_map (λ m. get cmp m k) o) Q
found_has_by cmp P Q go k None h = tt
found_has_by cmp P Q go k (Some m) h = go m k h

found_has : {K V : Type 0} (cmp : K → K → Ordering) (P : Map K V → Type 0) (Q : V → Type 0) → ((m : Map K V) (k : K) → P m → Q (get cmp m k)) → (maps : List (Map K V)) (n : ℕ) (k : K) → All P maps → IfSome (found_at cmp maps n k) Q
found_has cmp P Q go maps n k h = found_has_by cmp P Q go k (slice_get maps n) (All-found P maps n h)

module _ {F : Fraction → Type 0} {V : Value → Type 0} {P : Key → Type 0} {C : Content → Type 0} {s : State} (h : AllOfState F V P C s) where
  pub value_has : (f r : ℕ) → IfSome (value_at s f r) V
  value_has f r = found_has nat_cmp (HasValues V) V (λ m k i. get_has nat_cmp m k i) s.heap f r h.heap

  pub mask_has : (f r : ℕ) → IfSome (mask_at s f r) F
  mask_has f r = found_has nat_cmp (HasValues F) F (λ m k i. get_has nat_cmp m k i) s.mask f r h.mask

  pub content_has : (p : ℕ) (k : Key) → IfSome (content_at s p k) C
  content_has p k = found_has key_cmp (HasEntries P C) C (λ m q i. get_has key_cmp m q i.values) s.content p k h.content

  pub amount_has : (p : ℕ) (k : Key) → IfSome (amount_at s p k) F
  amount_has p k = found_has key_cmp (HasEntries P F) F (λ m q i. get_has key_cmp m q i.values) s.amount p k h.amount

  -- ---- what is set

  pub with_value_has : (f r : ℕ) (v : Value) → V v → AllOfState F V P C (with_value s f r v)
  with_value_has f r v q = record {
    heap = All-changed nat_cmp value_eq (HasValues V) s.heap f r v h.heap (λ m i. set_has_values nat_cmp value_eq m r v i q);
    content = h.content;
    mask = h.mask;
    amount = h.amount;
  }

  pub with_mask_has : (f r : ℕ) (p : Fraction) → F p → AllOfState F V P C (with_mask s f r p)
  with_mask_has f r p q = record {
    heap = h.heap;
    content = h.content;
    mask = All-changed nat_cmp fraction_eq (HasValues F) s.mask f r p h.mask (λ m i. set_has_values nat_cmp fraction_eq m r p i q);
    amount = h.amount;
  }

  pub with_content_has : (p : ℕ) (k : Key) (c : Content) → P k → C c → AllOfState F V P C (with_content s p k c)
  with_content_has p k c key q = record {
    heap = h.heap;
    content = All-changed key_cmp same_content (HasEntries P C) s.content p k c h.content (λ m i. set_has_entries key_cmp same_content m k c i key q);
    mask = h.mask;
    amount = h.amount;
  }

  pub with_amount_has : (p : ℕ) (k : Key) (a : Fraction) → P k → F a → AllOfState F V P C (with_amount s p k a)
  with_amount_has p k a key q = record {
    heap = h.heap;
    content = h.content;
    mask = h.mask;
    amount = All-changed key_cmp fraction_eq (HasEntries P F) s.amount p k a h.amount (λ m i. set_has_entries key_cmp fraction_eq m k a i key q);
  }

  -- the heap and the contents alone
  pub memo_has : AllOfMemo V P C (record { heap = s.heap; content = s.content })
  memo_has = record { heap = h.heap; content = h.content }

pub empty_state_has : {F : Fraction → Type 0} {V : Value → Type 0} {P : Key → Type 0} {C : Content → Type 0} (l : Layout) (m : Memo) → AllOfMemo V P C m → F none → AllOfState F V P C (empty_state l m)
empty_state_has {F} {V} {P} {C} l m h q = record {
  heap = h.heap;
  content = h.content;
  mask = All-replicate (HasValues F) (length l.fields) (empty none) (empty_has_values none q);
  amount = All-replicate (HasEntries P F) (length l.keys) (empty none) (empty_has_entries none q);
}

-- ---- signs

pub none_not_negative : IsNotNegative none
none_not_negative = refl

module _ {s : State} (h : IsNonnegative s) where
  pub mask_not_negative : (f r : ℕ) → IfSome (mask_at s f r) IsNotNegative
  mask_not_negative f r = found_has nat_cmp (HasValues IsNotNegative) IsNotNegative (λ m k i. get_has nat_cmp m k i) s.mask f r h.mask

  pub amount_not_negative : (p : ℕ) (k : Key) → IfSome (amount_at s p k) IsNotNegative
  amount_not_negative p k = found_has key_cmp (HasValues IsNotNegative) IsNotNegative (λ m q i. get_has key_cmp m q i) s.amount p k h.amount

  pub with_value_nonnegative : (f r : ℕ) (v : Value) → IsNonnegative (with_value s f r v)
  with_value_nonnegative f r v = record { mask = h.mask; amount = h.amount }

  pub with_content_nonnegative : (p : ℕ) (k : Key) (c : Content) → IsNonnegative (with_content s p k c)
  with_content_nonnegative p k c = record { mask = h.mask; amount = h.amount }

  pub with_mask_nonnegative : (f r : ℕ) (q : Fraction) → is_negative q ≡ false → IsNonnegative (with_mask s f r q)
  with_mask_nonnegative f r q e = record {
    mask = All-changed nat_cmp fraction_eq (HasValues IsNotNegative) s.mask f r q h.mask (λ m i. set_has_values nat_cmp fraction_eq m r q i e);
    amount = h.amount;
  }

  pub with_amount_nonnegative : (p : ℕ) (k : Key) (q : Fraction) → is_negative q ≡ false → IsNonnegative (with_amount s p k q)
  with_amount_nonnegative p k q e = record {
    mask = h.mask;
    amount = All-changed key_cmp fraction_eq (HasValues IsNotNegative) s.amount p k q h.amount (λ m i. set_has_values key_cmp fraction_eq m k q i e);
  }

pub empty_state_nonnegative : (l : Layout) (m : Memo) → IsNonnegative (empty_state l m)
empty_state_nonnegative l m = record {
  mask = All-replicate (HasValues IsNotNegative) (length l.fields) (empty none) (empty_has_values none none_not_negative);
  amount = All-replicate (HasValues IsNotNegative) (length l.keys) (empty none) (empty_has_values none none_not_negative);
}
