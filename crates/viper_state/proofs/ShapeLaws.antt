-- A state that fits has the maps of the program, and setting keeps them.
use Rattle.std.proofs.Common.{◌≡◌, refl, ap, ◌∙◌, Bool, ℕ, zero, suc, Option, Some, None, List, length, replicate, slice_get}
use Rattle.std.proofs.lemmas.Slice.Zip.{AllZip-long}
use Rattle.std.specs.Ordering.{nat_cmp}
use Rattle.std.specs.declared.cmp.Ordering.{Ordering}
use Rattle.lemmas.proofs.Lists.{set_length}
use Rattle.sparse.specs.Map.{Map, empty, set}
use Rattle.vb_value.specs.Content.{Content, same_content}
use Rattle.vb_value.specs.Fraction.{Fraction, none}
use Rattle.vb_value.specs.Key.{key_cmp}
use Rattle.vb_value.specs.Layout.{Layout}
use Rattle.vb_value.specs.Value.{value_eq, fraction_eq}
use Rattle.vb_value.specs.declared.values.Value.{Value}
use Rattle.viper_state.specs.Fits.{FitsHeap, FitsMask, FitsContents, FitsAmounts, FitsMemo, FitsState, HasMaps, MemoHasMaps}
use Rattle.viper_state.specs.State.{Key, Memo, State, changed, changed_at, with_value, with_mask, with_content, with_amount, empty_state}

pub state_has_maps : (l : Layout) (s : State) → FitsState l s → HasMaps l s
state_has_maps l s h = record {
  heap = AllZip-long FitsHeap l.fields s.heap h.heap;
  content = AllZip-long FitsContents l.keys s.content h.content;
  mask = AllZip-long FitsMask l.fields s.mask h.mask;
  amount = AllZip-long FitsAmounts l.keys s.amount h.amount;
}

pub memo_has_maps : (l : Layout) (m : Memo) → FitsMemo l m → MemoHasMaps l m
memo_has_maps l m h = record { heap = AllZip-long FitsHeap l.fields m.heap h.heap; content = AllZip-long FitsContents l.keys m.content h.content }

pub length-changed : {K V : Type 0} (cmp : K → K → Ordering) (eq : V → V → Bool) (maps : List (Map K V)) (n : ℕ) (k : K) (v : V) → length (changed_at cmp eq maps n k v) ≡ length maps
length-changed {K} {V} cmp eq maps n k v = by (slice_get maps n)
  where
    by : (o : Option (Map K V)) → length (changed cmp eq maps n k v o) ≡ length maps
    by None = refl
    by (Some m) = set_length maps n (set cmp eq m k v)

module _ {l : Layout} {s : State} (h : HasMaps l s) where
  pub with_value_has_maps : (f r : ℕ) (v : Value) → HasMaps l (with_value s f r v)
  with_value_has_maps f r v = record { heap = length-changed nat_cmp value_eq s.heap f r v ∙ h.heap; content = h.content; mask = h.mask; amount = h.amount }

  pub with_mask_has_maps : (f r : ℕ) (q : Fraction) → HasMaps l (with_mask s f r q)
  with_mask_has_maps f r q = record { heap = h.heap; content = h.content; mask = length-changed nat_cmp fraction_eq s.mask f r q ∙ h.mask; amount = h.amount }

  pub with_content_has_maps : (p : ℕ) (k : Key) (c : Content) → HasMaps l (with_content s p k c)
  with_content_has_maps p k c = record { heap = h.heap; content = length-changed key_cmp same_content s.content p k c ∙ h.content; mask = h.mask; amount = h.amount }

  pub with_amount_has_maps : (p : ℕ) (k : Key) (q : Fraction) → HasMaps l (with_amount s p k q)
  with_amount_has_maps p k q = record { heap = h.heap; content = h.content; mask = h.mask; amount = length-changed key_cmp fraction_eq s.amount p k q ∙ h.amount }

length-copies : {X : Type 0} (n : ℕ) (x : X) → length (replicate n x) ≡ n
length-copies zero x = refl
length-copies (suc n) x = ap suc (length-copies n x)

pub empty_state_has_maps : (l : Layout) (m : Memo) → MemoHasMaps l m → HasMaps l (empty_state l m)
empty_state_has_maps l m h = record { heap = h.heap; content = h.content; mask = length-copies (length l.fields) (empty none); amount = length-copies (length l.keys) (empty none) }
