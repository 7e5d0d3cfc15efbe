-- What fits keeps fitting where a value, a content or an amount of the right type is set, and each place that a layout has is
-- found.
use Rattle.std.proofs.Common.{◌≡◌, ◌≢◌, ◌⊎◌, ℕ, Bool, List, Option, Some, None, slice_get, refl, sym, ap, subst}
use Rattle.std.specs.List.{AllZip}
use Rattle.std.specs.Cmp.{IsTotalOrder}
use Rattle.std.specs.Option.{option_map, IfSome}
use Rattle.std.specs.Ordering.{nat_cmp}
use Rattle.std.specs.declared.cmp.Ordering.{Ordering}
use Rattle.std.proofs.lemmas.List.Elements.{All-nil}
use Rattle.sparse.specs.Map as map
use Rattle.sparse.specs.Map.{Map, get, set, empty, keys, values}
use Rattle.sparse.specs.Meaning.{IsExact}
use Rattle.sparse.proofs.MapLaws.{IsReduced-set, IsReduced-empty, All-keys-set, All-values-set, get-All}
use Rattle.vb_value.specs.Content.{Content, IsReducedContent, same_content}
use Rattle.vb_value.specs.Fraction.{Fraction, IsReduced, none}
use Rattle.vb_value.specs.Key.{key_cmp}
use Rattle.vb_value.specs.Layout.{Layout}
use Rattle.vb_value.specs.Value.{value_eq, fraction_eq, default_of}
use Rattle.vb_value.specs.declared.values.Ty.{Ty}
use Rattle.vb_value.specs.declared.values.Value.{Value}
use Rattle.vb_value.proofs.ReducedLaws.{type_of-default, IsReducedValue-default, IsReduced-none}
use Rattle.viper_state.specs.State.{Key, Memo, State, empty_state, found_at, changed_at, value_at, mask_at, content_at, amount_at, with_value, with_mask, with_content, with_amount}
use Rattle.viper_state.specs.Fits.{FitsMap, FitsKey, FitsValue, FitsHeap, FitsMask, FitsContents, FitsAmounts, FitsMemo, FitsState}
use Rattle.viper_state.proofs.MapLaws.{exact_values, exact_masks, exact_contents, exact_amounts}
use Rattle.viper_state.proofs.Paired.{paired, paired_back, paired_replicate, paired_changed, found_same, found_elsewhere}

-- ---- one map

module _ {K V : Type 0} {cmp : K → K → Ordering} (o : IsTotalOrder cmp) {eq : V → V → Bool} {d : V} {P : K → Type 0} {Q : V → Type 0} where
  pub FitsMap-set : (m : Map K V) (k : K) (v : V) → FitsMap cmp eq d P Q m → P k → Q v → FitsMap cmp eq d P Q (set cmp eq m k v)
  FitsMap-set m k v h p q = record {
    default = h.default;
    reduced = IsReduced-set o m h.reduced k v;
    keys = All-keys-set cmp eq m k v P h.keys p;
    values = All-values-set cmp eq m k v Q h.values q;
  }

  pub FitsMap-empty : FitsMap cmp eq d P Q (empty d)
  FitsMap-empty = record { default = refl; reduced = IsReduced-empty o d; keys = All-nil P; values = All-nil Q }

  pub FitsMap-get : (m : Map K V) (k : K) → FitsMap cmp eq d P Q m → Q d → Q (get cmp m k)
  FitsMap-get m k h q = get-All cmp Q m k (subst Q (sym h.default) q) h.values

-- what stands at the place of a list is one thing
same_item : {X : Type 0} (o : Option X) {x y : X} → o ≡ Some x → o ≡ Some y → x ≡ y
same_item o e f = cc

pub FitsValue-default : (u : Ty) → FitsValue u (default_of u)
FitsValue-default u = record { typed = type_of-default u; reduced = IsReducedValue-default u }

-- ---- changes keep what fits

module _ {l : Layout} {s : State} (h : FitsState l s) where
  pub with_value_fits : (f r : ℕ) (u : Ty) (v : Value) → slice_get l.fields f ≡ Some u → FitsValue u v → FitsState l (with_value s f r v)
  with_value_fits f r u v at fits = record {
    heap = paired_changed nat_cmp value_eq FitsHeap l.fields s.heap f r v h.heap (λ w m e i. FitsMap-set exact_values.total m r v i tt (subst (λ t. FitsValue t v) (same_item (slice_get l.fields f) at e) fits));
    content = h.content;
    mask = h.mask;
    amount = h.amount;
  }

  pub with_mask_fits : (f r : ℕ) (q : Fraction) → IsReduced q → FitsState l (with_mask s f r q)
  with_mask_fits f r q fits = record {
    heap = h.heap;
    content = h.content;
    mask = paired_changed nat_cmp fraction_eq FitsMask l.fields s.mask f r q h.mask (λ w m e i. FitsMap-set exact_masks.total m r q i tt fits);
    amount = h.amount;
  }

  pub with_content_fits : (p : ℕ) (us : List Ty) (k : Key) (c : Content) → slice_get l.keys p ≡ Some us → FitsKey us k → IsReducedContent c → FitsState l (with_content s p k c)
  with_content_fits p us k c at key fits = record {
    heap = h.heap;
    content = paired_changed key_cmp same_content FitsContents l.keys s.content p k c h.content (λ w m e i. FitsMap-set exact_contents.total m k c i (subst (λ t. FitsKey t k) (same_item (slice_get l.keys p) at e) key) fits);
    mask = h.mask;
    amount = h.amount;
  }

  pub with_amount_fits : (p : ℕ) (us : List Ty) (k : Key) (q : Fraction) → slice_get l.keys p ≡ Some us → FitsKey us k → IsReduced q → FitsState l (with_amount s p k q)
  with_amount_fits p us k q at key fits = record {
    heap = h.heap;
    content = h.content;
    mask = h.mask;
    amount = paired_changed key_cmp fraction_eq FitsAmounts l.keys s.amount p k q h.amount (λ w m e i. FitsMap-set exact_amounts.total m k q i (subst (λ t. FitsKey t k) (same_item (slice_get l.keys p) at e) key) fits);
  }

pub empty_state_fits : (l : Layout) (m : Memo) → FitsMemo l m → FitsState l (empty_state l m)
empty_state_fits l m h = record {
  heap = h.heap;
  content = h.content;
  mask = paired_replicate FitsMask l.fields (empty none) (λ u. FitsMap-empty exact_masks.total);
  amount = paired_replicate FitsAmounts l.keys (empty none) (λ us. FitsMap-empty exact_amounts.total);
}

-- the heap and the contents of a state that fits
pub memo_fits : (l : Layout) (s : State) → FitsState l s → FitsMemo l (record { heap = s.heap; content = s.content })
memo_fits l s h = record { heap = h.heap; content = h.content }

-- ---- what is found

module _ {K V U : Type 0} (cmp : K → K → Ordering) (R : U → Map K V → Type 0) (Q : U → V → Type 0) (go : (u : U) (m : Map K V) (k : K) → R u m → Q u (get cmp m k)) where
  found_by : (us : List U) (maps : List (Map K V)) (n : ℕ) (k : K) (u : U) → AllZip R us maps → slice_get us n ≡ Some u → (v : V) × ((found_at cmp maps n k ≡ Some v) × Q u v)
  found_by us maps n k u h at =
      let found = paired R us maps n u h at in
      (get cmp found.0 k, (ap (option_map (λ m. get cmp m k)) found.1.0, go u found.0 k found.1.1))

  some_map : (k : K) (o : Option (Map K V)) (v : V) → option_map (λ m. get cmp m k) o ≡ Some v → (m : Map K V) × ((o ≡ Some m) × (get cmp m k ≡ v))
  some_map k None v e = cc
  some_map k (Some m) v e = (m, (refl, cc))

  found_back : (us : List U) (maps : List (Map K V)) (n : ℕ) (k : K) (v : V) → AllZip R us maps → found_at cmp maps n k ≡ Some v → (u : U) × ((slice_get us n ≡ Some u) × Q u v)
  found_back us maps n k v h e =
      let there = some_map k (slice_get maps n) v e in
      let found = paired_back R us maps n there.0 h there.1.0 in
      (found.0, (found.1.0, subst (λ w. Q found.0 w) there.1.1 (go found.0 there.0 k found.1.1)))

module _ {l : Layout} {s : State} (h : FitsState l s) where
  value_go : (u : Ty) (m : Map ℕ Value) (r : ℕ) → FitsHeap u m → FitsValue u (get nat_cmp m r)
  value_go u m r i = FitsMap-get exact_values.total m r i (FitsValue-default u)

  mask_go : (u : Ty) (m : Map ℕ Fraction) (r : ℕ) → FitsMask u m → IsReduced (get nat_cmp m r)
  mask_go u m r i = FitsMap-get exact_masks.total m r i IsReduced-none

  content_go : (us : List Ty) (m : Map Key Content) (k : Key) → FitsContents us m → IsReducedContent (get key_cmp m k)
  content_go us m k i = FitsMap-get exact_contents.total m k i tt

  amount_go : (us : List Ty) (m : Map Key Fraction) (k : Key) → FitsAmounts us m → IsReduced (get key_cmp m k)
  amount_go us m k i = FitsMap-get exact_amounts.total m k i IsReduced-none

  -- each field has a value of its type, and a mask, at each reference
  pub value_found : (f r : ℕ) (u : Ty) → slice_get l.fields f ≡ Some u → (v : Value) × ((value_at s f r ≡ Some v) × FitsValue u v)
  value_found f r u at = found_by nat_cmp FitsHeap FitsValue value_go l.fields s.heap f r u h.heap at

  pub mask_found : (f r : ℕ) (u : Ty) → slice_get l.fields f ≡ Some u → (q : Fraction) × ((mask_at s f r ≡ Some q) × IsReduced q)
  mask_found f r u at = found_by nat_cmp FitsMask (λ w q. IsReduced q) mask_go l.fields s.mask f r u h.mask at

  -- each predicate has a content and an amount for all arguments
  pub content_found : (p : ℕ) (k : Key) (us : List Ty) → slice_get l.keys p ≡ Some us → (c : Content) × ((content_at s p k ≡ Some c) × IsReducedContent c)
  content_found p k us at = found_by key_cmp FitsContents (λ w c. IsReducedContent c) content_go l.keys s.content p k us h.content at

  pub amount_found : (p : ℕ) (k : Key) (us : List Ty) → slice_get l.keys p ≡ Some us → (q : Fraction) × ((amount_at s p k ≡ Some q) × IsReduced q)
  amount_found p k us at = found_by key_cmp FitsAmounts (λ w q. IsReduced q) amount_go l.keys s.amount p k us h.amount at

  -- and what is found is of a field or predicate that the layout has
  pub field_of_value : (f r : ℕ) (v : Value) → value_at s f r ≡ Some v → (u : Ty) × ((slice_get l.fields f ≡ Some u) × FitsValue u v)
  field_of_value f r v e = found_back nat_cmp FitsHeap FitsValue value_go l.fields s.heap f r v h.heap e

  pub field_of_mask : (f r : ℕ) (q : Fraction) → mask_at s f r ≡ Some q → (u : Ty) × ((slice_get l.fields f ≡ Some u) × IsReduced q)
  field_of_mask f r q e = found_back nat_cmp FitsMask (λ w p. IsReduced p) mask_go l.fields s.mask f r q h.mask e

  pub predicate_of_content : (p : ℕ) (k : Key) (c : Content) → content_at s p k ≡ Some c → (us : List Ty) × ((slice_get l.keys p ≡ Some us) × IsReducedContent c)
  predicate_of_content p k c e = found_back key_cmp FitsContents (λ w d. IsReducedContent d) content_go l.keys s.content p k c h.content e

  pub predicate_of_amount : (p : ℕ) (k : Key) (q : Fraction) → amount_at s p k ≡ Some q → (us : List Ty) × ((slice_get l.keys p ≡ Some us) × IsReduced q)
  predicate_of_amount p k q e = found_back key_cmp FitsAmounts (λ w r. IsReduced r) amount_go l.keys s.amount p k q h.amount e

-- ---- reading after setting

module _ {K V U : Type 0} {cmp : K → K → Ordering} {eq : V → V → Bool} (x : IsExact cmp eq) (R : U → Map K V → Type 0) (reduced : (u : U) (m : Map K V) → R u m → map.IsReduced cmp eq m) where
  reduced_by : (us : List U) (maps : List (Map K V)) (n : ℕ) → AllZip R us maps → (o : Option (Map K V)) → slice_get maps n ≡ o → IfSome o (map.IsReduced cmp eq)
  reduced_by us maps n h None e = tt
  reduced_by us maps n h (Some m) e =
      let found = paired_back R us maps n m h e in
      reduced found.0 m found.1.1

  pub reduced_at : (us : List U) (maps : List (Map K V)) (n : ℕ) → AllZip R us maps → IfSome (slice_get maps n) (map.IsReduced cmp eq)
  reduced_at us maps n h = reduced_by us maps n h (slice_get maps n) refl

  set_is_read : (us : List U) (maps : List (Map K V)) (n : ℕ) (k : K) (v : V) (u : U) → AllZip R us maps → slice_get us n ≡ Some u → found_at cmp (changed_at cmp eq maps n k v) n k ≡ Some v
  set_is_read us maps n k v u h at =
      let found = paired R us maps n u h at in
      found_same x maps n k v found.0 found.1.0 (reduced u found.0 found.1.1)

  others_stay : (us : List U) (maps : List (Map K V)) (n g : ℕ) (k q : K) (v : V) → AllZip R us maps → (n ≢ g) ⊎ (k ≢ q) → found_at cmp (changed_at cmp eq maps n k v) g q ≡ found_at cmp maps g q
  others_stay us maps n g k q v h apart = found_elsewhere x maps n g k q v (reduced_at us maps n h) apart

module _ {l : Layout} {s : State} (h : FitsState l s) where
  -- what was set is read
  pub value_set : (f r : ℕ) (u : Ty) (v : Value) → slice_get l.fields f ≡ Some u → value_at (with_value s f r v) f r ≡ Some v
  value_set f r u v at = set_is_read exact_values FitsHeap (λ w m i. i.reduced) l.fields s.heap f r v u h.heap at

  pub mask_set : (f r : ℕ) (u : Ty) (q : Fraction) → slice_get l.fields f ≡ Some u → mask_at (with_mask s f r q) f r ≡ Some q
  mask_set f r u q at = set_is_read exact_masks FitsMask (λ w m i. i.reduced) l.fields s.mask f r q u h.mask at

  pub content_set : (p : ℕ) (k : Key) (us : List Ty) (c : Content) → slice_get l.keys p ≡ Some us → content_at (with_content s p k c) p k ≡ Some c
  content_set p k us c at = set_is_read exact_contents FitsContents (λ w m i. i.reduced) l.keys s.content p k c us h.content at

  pub amount_set : (p : ℕ) (k : Key) (us : List Ty) (q : Fraction) → slice_get l.keys p ≡ Some us → amount_at (with_amount s p k q) p k ≡ Some q
  amount_set p k us q at = set_is_read exact_amounts FitsAmounts (λ w m i. i.reduced) l.keys s.amount p k q us h.amount at

  -- and at another field or reference, predicate or arguments, stands what stood there
  pub value_elsewhere : (f r g x : ℕ) (v : Value) → (f ≢ g) ⊎ (r ≢ x) → value_at (with_value s f r v) g x ≡ value_at s g x
  value_elsewhere f r g x v apart = others_stay exact_values FitsHeap (λ w m i. i.reduced) l.fields s.heap f g r x v h.heap apart

  pub mask_elsewhere : (f r g x : ℕ) (q : Fraction) → (f ≢ g) ⊎ (r ≢ x) → mask_at (with_mask s f r q) g x ≡ mask_at s g x
  mask_elsewhere f r g x q apart = others_stay exact_masks FitsMask (λ w m i. i.reduced) l.fields s.mask f g r x q h.mask apart

  pub content_elsewhere : (p o : ℕ) (k j : Key) (c : Content) → (p ≢ o) ⊎ (k ≢ j) → content_at (with_content s p k c) o j ≡ content_at s o j
  content_elsewhere p o k j c apart = others_stay exact_contents FitsContents (λ w m i. i.reduced) l.keys s.content p o k j c h.content apart

  pub amount_elsewhere : (p o : ℕ) (k j : Key) (q : Fraction) → (p ≢ o) ⊎ (k ≢ j) → amount_at (with_amount s p k q) o j ≡ amount_at s o j
  amount_elsewhere p o k j q apart = others_stay exact_amounts FitsAmounts (λ w m i. i.reduced) l.keys s.amount p o k j q h.amount apart
