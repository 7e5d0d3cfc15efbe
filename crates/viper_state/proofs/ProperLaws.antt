-- What fits is proper without a bound, and under the bound where it is within it.
use Rattle.std.proofs.Common.{ℕ, pos, Bool, List, All, subst, sym, arith}
use Rattle.std.specs.List.{AllZip}
use Rattle.std.specs.declared.cmp.Ordering.{Ordering}
use Rattle.std.proofs.lemmas.List.Elements.{All-weaker}
use Rattle.lemmas.proofs.Lists.{all_both}
use Rattle.sparse.specs.Map.{Map, keys, values}
use Rattle.vb_value.specs.Bound.{Bound, Unbounded, Bounded, IfBounded}
use Rattle.vb_value.specs.Content.{Content, Unit, IsProperContent}
use Rattle.vb_value.specs.Fraction.{Fraction, IsProperFraction, none}
use Rattle.vb_value.specs.Key.{IsProperKey}
use Rattle.vb_value.specs.Layout.{Layout}
use Rattle.vb_value.specs.Value.{IsProperValue, default_of}
use Rattle.vb_value.specs.declared.values.Ty.{Ty}
use Rattle.vb_value.specs.declared.values.Value.{Value}
use Rattle.vb_value.proofs.ProperLaws.{proper_whole}
use Rattle.vb_value.proofs.ReducedLaws.{IsReduced-none, proper_fraction, proper_value, proper_content, proper_key, bounded_fraction, bounded_value, bounded_content, bounded_key, within_fraction, within_value, within_content, within_key}
use Rattle.viper_state.specs.State.{Key, Memo, State, empty_state}
use Rattle.viper_state.specs.Choice as choice
use Rattle.viper_state.specs.Event as event
use Rattle.viper_state.specs.Run.{Opening, Scene, Feed}
use Rattle.viper_state.specs.Fits.{FitsMap, FitsValue, FitsHeap, FitsMask, FitsContents, FitsAmounts, FitsMemo, FitsState, FitsScene, FitsOpening, FitsChoice, FitsEvent, FitsFeed}
use Rattle.viper_state.specs.Within.{HasValues, HasEntries, AllOfMemo, AllOfState, AllOfScene, AllOfOpening, AllOfChoice, AllOfEvent, IsWithinMemo, IsWithinState, IsWithinScene, IsWithinOpening, IsWithinChoice, IsWithinEvent, IsWithinFeed, IsProperMemo, IsProperState, IsProperScene, IsProperOpening, IsProperChoice, IsProperEvent, IsProperFeed}
use Rattle.viper_state.proofs.EachLaws.{empty_state_has}
use Rattle.viper_state.proofs.FitsLaws.{FitsValue-default}
use Rattle.viper_state.proofs.Paired.{All-paired}

-- ---- what holds of two at once

module _ {V : Type 0} {P Q R : V → Type 0} (go : (v : V) → P v → Q v → R v) where
  both_values : {K : Type 0} (m : Map K V) → HasValues P m → HasValues Q m → HasValues R m
  both_values m p q = record { default = go m.default p.default q.default; others = all_both P Q R go (values m) p.others q.others }

  both_entries : {K : Type 0} {A B C : K → Type 0} → ((k : K) → A k → B k → C k) → (m : Map K V) → HasEntries A P m → HasEntries B Q m → HasEntries C R m
  both_entries {A = A} {B} {C} each m p q = record { keys = all_both A B C each (keys m) p.keys q.keys; values = both_values m p.values q.values }

module _ {V W X : Value → Type 0} {K L M : Key → Type 0} {C D E : Content → Type 0} (of_values : (v : Value) → V v → W v → X v) (of_keys : (k : Key) → K k → L k → M k) (contents : (c : Content) → C c → D c → E c) where
  pub both_memo : (m : Memo) → AllOfMemo V K C m → AllOfMemo W L D m → AllOfMemo X M E m
  both_memo m p q = record {
    heap = all_both (HasValues V) (HasValues W) (HasValues X) (both_values of_values) m.heap p.heap q.heap;
    content = all_both (HasEntries K C) (HasEntries L D) (HasEntries M E) (both_entries contents of_keys) m.content p.content q.content;
  }

  pub both_opening : (o : Opening) → AllOfOpening V K C o → AllOfOpening W L D o → AllOfOpening X M E o
  both_opening o p q = record { store = all_both V W X of_values o.store p.store q.store; memo = both_memo o.memo p.memo q.memo }

module _ {F G H : Fraction → Type 0} {V W X : Value → Type 0} {K L M : Key → Type 0} {C D E : Content → Type 0} (fractions : (q : Fraction) → F q → G q → H q) (of_values : (v : Value) → V v → W v → X v) (of_keys : (k : Key) → K k → L k → M k) (contents : (c : Content) → C c → D c → E c) where
  pub both_state : (s : State) → AllOfState F V K C s → AllOfState G W L D s → AllOfState H X M E s
  both_state s p q = record {
    heap = all_both (HasValues V) (HasValues W) (HasValues X) (both_values of_values) s.heap p.heap q.heap;
    content = all_both (HasEntries K C) (HasEntries L D) (HasEntries M E) (both_entries contents of_keys) s.content p.content q.content;
    mask = all_both (HasValues F) (HasValues G) (HasValues H) (both_values fractions) s.mask p.mask q.mask;
    amount = all_both (HasEntries K F) (HasEntries L G) (HasEntries M H) (both_entries fractions of_keys) s.amount p.amount q.amount;
  }

  pub both_scene : (sc : Scene) → AllOfScene F V K C sc → AllOfScene G W L D sc → AllOfScene H X M E sc
  both_scene sc p q = record { store = all_both V W X of_values sc.store p.store q.store; old = both_state sc.old p.old q.old }

  pub both_choice : (c : choice.Choice) → AllOfChoice F V K C c → AllOfChoice G W L D c → AllOfChoice H X M E c
  both_choice (choice.Branch b) p q = tt
  both_choice (choice.Took v) p q = of_values v p q
  both_choice (choice.Amount a) p q = fractions a p q
  both_choice (choice.Fresh x) p q = tt
  both_choice (choice.Filled m) p q = both_memo of_values of_keys contents m p q

  pub both_event : (e : event.Event) → AllOfEvent F V K C e → AllOfEvent G W L D e → AllOfEvent H X M E e
  both_event (event.Branch b) p q = tt
  both_event (event.Took v) p q = of_values v p q
  both_event (event.Wild a) p q = fractions a p q
  both_event (event.Fresh x) p q = tt
  both_event (event.Whole m) p q = both_memo of_values of_keys contents m p q
  both_event (event.Split a b) p q = (contents a p.0 q.0, contents b p.1 q.1)
  both_event (event.Leaf v) p q = of_values v p q

-- ---- what fits is proper without a bound

module _ {K V : Type 0} {cmp : K → K → Ordering} {eq : V → V → Bool} {d : V} {P : K → Type 0} {Q B : V → Type 0} (each : (v : V) → Q v → B v) (start : B d) where
  values_of_fit : (m : Map K V) → FitsMap cmp eq d P Q m → HasValues B m
  values_of_fit m h = record { default = subst B (sym h.default) start; others = All-weaker Q B each (values m) h.values }

  entries_of_fit : {A : K → Type 0} → ((k : K) → P k → A k) → (m : Map K V) → FitsMap cmp eq d P Q m → HasEntries A B m
  entries_of_fit {A} go m h = record { keys = All-weaker P A go (keys m) h.keys; values = values_of_fit m h }

heap_proper : (u : Ty) (m : Map ℕ Value) → FitsHeap u m → HasValues (IsProperValue Unbounded) m
heap_proper u m h = values_of_fit (λ v f. proper_value v f.reduced) (proper_value (default_of u) (FitsValue-default u).reduced) m h

mask_proper : (u : Ty) (m : Map ℕ Fraction) → FitsMask u m → HasValues (IsProperFraction Unbounded) m
mask_proper u m h = values_of_fit proper_fraction (proper_fraction none IsReduced-none) m h

contents_proper : (us : List Ty) (m : Map Key Content) → FitsContents us m → HasEntries (IsProperKey Unbounded) (IsProperContent Unbounded) m
contents_proper us m h = entries_of_fit proper_content (proper_content Unit tt) (λ k f. proper_key k) m h

amounts_proper : (us : List Ty) (m : Map Key Fraction) → FitsAmounts us m → HasEntries (IsProperKey Unbounded) (IsProperFraction Unbounded) m
amounts_proper us m h = entries_of_fit proper_fraction (proper_fraction none IsReduced-none) (λ k f. proper_key k) m h

pub memo_proper : (l : Layout) (m : Memo) → FitsMemo l m → IsProperMemo Unbounded m
memo_proper l m h = record {
  heap = All-paired FitsHeap (HasValues (IsProperValue Unbounded)) heap_proper l.fields m.heap h.heap;
  content = All-paired FitsContents (HasEntries (IsProperKey Unbounded) (IsProperContent Unbounded)) contents_proper l.keys m.content h.content;
}

pub state_proper : (l : Layout) (s : State) → FitsState l s → IsProperState Unbounded s
state_proper l s h = record {
  heap = All-paired FitsHeap (HasValues (IsProperValue Unbounded)) heap_proper l.fields s.heap h.heap;
  content = All-paired FitsContents (HasEntries (IsProperKey Unbounded) (IsProperContent Unbounded)) contents_proper l.keys s.content h.content;
  mask = All-paired FitsMask (HasValues (IsProperFraction Unbounded)) mask_proper l.fields s.mask h.mask;
  amount = All-paired FitsAmounts (HasEntries (IsProperKey Unbounded) (IsProperFraction Unbounded)) amounts_proper l.keys s.amount h.amount;
}

store_proper : (us : List Ty) (vs : List Value) → AllZip FitsValue us vs → All (IsProperValue Unbounded) vs
store_proper us vs h = All-paired FitsValue (IsProperValue Unbounded) (λ u v f. proper_value v f.reduced) us vs h

pub scene_proper : (l : Layout) (us : List Ty) (sc : Scene) → FitsScene l us sc → IsProperScene Unbounded sc
scene_proper l us sc h = record { store = store_proper us sc.store h.store; old = state_proper l sc.old h.old }

pub opening_proper : (l : Layout) (us : List Ty) (o : Opening) → FitsOpening l us o → IsProperOpening Unbounded o
opening_proper l us o h = record { store = store_proper us o.store h.store; memo = memo_proper l o.memo h.memo }

pub choice_proper : (l : Layout) (c : choice.Choice) → FitsChoice l c → IsProperChoice Unbounded c
choice_proper l (choice.Branch b) h = tt
choice_proper l (choice.Took v) h = proper_value v h
choice_proper l (choice.Amount q) h = proper_fraction q h
choice_proper l (choice.Fresh x) h = tt
choice_proper l (choice.Filled m) h = memo_proper l m h

pub event_proper : (l : Layout) (e : event.Event) → FitsEvent l e → IsProperEvent Unbounded e
event_proper l (event.Branch b) h = tt
event_proper l (event.Took v) h = proper_value v h
event_proper l (event.Wild q) h = proper_fraction q h
event_proper l (event.Fresh x) h = tt
event_proper l (event.Whole m) h = memo_proper l m h
event_proper l (event.Split a b) h = (proper_content a h.0, proper_content b h.1)
event_proper l (event.Leaf v) h = proper_value v h

pub feed_proper : (l : Layout) (f : Feed) → FitsFeed l f → IsProperFeed Unbounded f
feed_proper l f h = record {
  left = All-weaker (FitsChoice l) (IsProperChoice Unbounded) (choice_proper l) f.left h.left;
  events = All-weaker (FitsEvent l) (IsProperEvent Unbounded) (event_proper l) f.events h.events;
}

-- ---- and under the bound, where it is within it

pub bounded_memo : (m : Memo) → IsProperMemo Unbounded m → IsWithinMemo m → IsProperMemo Bounded m
bounded_memo = both_memo bounded_value bounded_key bounded_content

pub bounded_state : (s : State) → IsProperState Unbounded s → IsWithinState s → IsProperState Bounded s
bounded_state = both_state bounded_fraction bounded_value bounded_key bounded_content

pub bounded_scene : (sc : Scene) → IsProperScene Unbounded sc → IsWithinScene sc → IsProperScene Bounded sc
bounded_scene = both_scene bounded_fraction bounded_value bounded_key bounded_content

pub bounded_opening : (o : Opening) → IsProperOpening Unbounded o → IsWithinOpening o → IsProperOpening Bounded o
bounded_opening = both_opening bounded_value bounded_key bounded_content

pub bounded_choice : (c : choice.Choice) → IsProperChoice Unbounded c → IsWithinChoice c → IsProperChoice Bounded c
bounded_choice = both_choice bounded_fraction bounded_value bounded_key bounded_content

pub bounded_event : (e : event.Event) → IsProperEvent Unbounded e → IsWithinEvent e → IsProperEvent Bounded e
bounded_event = both_event bounded_fraction bounded_value bounded_key bounded_content

pub bounded_feed : (f : Feed) → IsProperFeed Unbounded f → IsWithinFeed f → IsProperFeed Bounded f
bounded_feed f p w = record {
  left = all_both (IsProperChoice Unbounded) IsWithinChoice (IsProperChoice Bounded) bounded_choice f.left p.left w.left;
  events = all_both (IsProperEvent Unbounded) IsWithinEvent (IsProperEvent Bounded) bounded_event f.events p.events w.events;
}

-- ---- and what is proper under the bound is within it

pub within_memo : (m : Memo) → IsProperMemo Bounded m → IsWithinMemo m
within_memo m p = both_memo (λ v a b. within_value v a) (λ k a b. within_key k a) (λ c a b. within_content c a) m p p

pub within_state : (s : State) → IsProperState Bounded s → IsWithinState s
within_state s p =
    both_state (λ q a b. within_fraction q a) (λ v a b. within_value v a) (λ k a b. within_key k a) (λ c a b. within_content c a) s p p

pub within_scene : (sc : Scene) → IsProperScene Bounded sc → IsWithinScene sc
within_scene sc p =
    both_scene (λ q a b. within_fraction q a) (λ v a b. within_value v a) (λ k a b. within_key k a) (λ c a b. within_content c a) sc p p

pub within_opening : (o : Opening) → IsProperOpening Bounded o → IsWithinOpening o
within_opening o p = both_opening (λ v a b. within_value v a) (λ k a b. within_key k a) (λ c a b. within_content c a) o p p

pub within_choice : (c : choice.Choice) → IsProperChoice Bounded c → IsWithinChoice c
within_choice c p =
    both_choice (λ q a b. within_fraction q a) (λ v a b. within_value v a) (λ k a b. within_key k a) (λ c a b. within_content c a) c p p

pub within_event : (e : event.Event) → IsProperEvent Bounded e → IsWithinEvent e
within_event e p =
    both_event (λ q a b. within_fraction q a) (λ v a b. within_value v a) (λ k a b. within_key k a) (λ c a b. within_content c a) e p p

pub within_feed : (f : Feed) → IsProperFeed Bounded f → IsWithinFeed f
within_feed f p = record {
  left = All-weaker (IsProperChoice Bounded) IsWithinChoice within_choice f.left p.left;
  events = All-weaker (IsProperEvent Bounded) IsWithinEvent within_event f.events p.events;
}

-- ---- what fits and is within the bound, where there is one, is proper

pub memo_proper_by : (b : Bound) (l : Layout) (m : Memo) → FitsMemo l m → IfBounded b (IsWithinMemo m) → IsProperMemo b m
memo_proper_by Unbounded l m h w = memo_proper l m h
memo_proper_by Bounded l m h w = bounded_memo m (memo_proper l m h) w

pub state_proper_by : (b : Bound) (l : Layout) (s : State) → FitsState l s → IfBounded b (IsWithinState s) → IsProperState b s
state_proper_by Unbounded l s h w = state_proper l s h
state_proper_by Bounded l s h w = bounded_state s (state_proper l s h) w

pub scene_proper_by : (b : Bound) (l : Layout) (us : List Ty) (sc : Scene) → FitsScene l us sc → IfBounded b (IsWithinScene sc) → IsProperScene b sc
scene_proper_by Unbounded l us sc h w = scene_proper l us sc h
scene_proper_by Bounded l us sc h w = bounded_scene sc (scene_proper l us sc h) w

pub opening_proper_by : (b : Bound) (l : Layout) (us : List Ty) (o : Opening) → FitsOpening l us o → IfBounded b (IsWithinOpening o) → IsProperOpening b o
opening_proper_by Unbounded l us o h w = opening_proper l us o h
opening_proper_by Bounded l us o h w = bounded_opening o (opening_proper l us o h) w

pub choice_proper_by : (b : Bound) (l : Layout) (c : choice.Choice) → FitsChoice l c → IfBounded b (IsWithinChoice c) → IsProperChoice b c
choice_proper_by Unbounded l c h w = choice_proper l c h
choice_proper_by Bounded l c h w = bounded_choice c (choice_proper l c h) w

pub event_proper_by : (b : Bound) (l : Layout) (e : event.Event) → FitsEvent l e → IfBounded b (IsWithinEvent e) → IsProperEvent b e
event_proper_by Unbounded l e h w = event_proper l e h
event_proper_by Bounded l e h w = bounded_event e (event_proper l e h) w

pub feed_proper_by : (b : Bound) (l : Layout) (f : Feed) → FitsFeed l f → IfBounded b (IsWithinFeed f) → IsProperFeed b f
feed_proper_by Unbounded l f h w = feed_proper l f h
feed_proper_by Bounded l f h w = bounded_feed f (feed_proper l f h) w

-- ---- where nothing is held

pub none_proper : (b : Bound) → IsProperFraction b none
none_proper Unbounded = proper_whole Unbounded (pos 0) tt
none_proper Bounded = proper_whole Bounded (pos 0) (omega arith)

pub empty_state_proper : (b : Bound) (l : Layout) (m : Memo) → IsProperMemo b m → IsProperState b (empty_state l m)
empty_state_proper b l m h = empty_state_has l m h (none_proper b)
