-- The moves of events can be printed.
use Rattle.std.specs.Prelude.{⊤}
use Rattle.std.proofs.Common.{◌≡◌, ◌∙◌, ℕ, false, pos, List, [], ◌∷◌, map, All, refl, sym, ap, subst, arith}
use Rattle.std.proofs.lemmas.List.Elements.{All-nil, All-cons, All-head, All-tail, All-append}
use Rattle.std.specs.List.{AllZip}
use Rattle.std.specs.List.Sorted.{IsStrictlySortedBy}
use Rattle.std.specs.Map.{keys_of, values_of}
use Rattle.lemmas.proofs.Lists.{all_left, all_right}
use Rattle.sparse.specs.Map.{Map, keys, values}
use Rattle.vb_value.specs.Bound.{IsWithin}
use Rattle.vb_value.specs.Content.{Content, IsReducedContent, IsWithinContent, same_content}
use Rattle.vb_value.specs.Key.{key_cmp, IsWithinPart, IsWithinKey}
use Rattle.vb_value.specs.Layout.{Layout}
use Rattle.vb_value.specs.Value as v
use Rattle.vb_value.specs.Value.{value_eq, IsReducedValue, IsWithinValue}
use Rattle.vb_value.specs.declared.keys.KeyPart.TheVariants as part
use Rattle.vb_value.specs.declared.values.Ty.{Ty}
use Rattle.vb_value.specs.declared.values.Value.{Value}
use Rattle.vb_value.specs.declared.values.Value.TheVariants as value
use Rattle.viper_state.specs.Event.{Event, Branch, Took, Wild, Fresh, Whole, Split, Leaf}
use Rattle.viper_state.specs.Fits.{FitsValue, FitsHeap, FitsContents, FitsEvent}
use Rattle.viper_state.specs.Within.{HasValues, HasEntries, IsWithinEvent}
use Rattle.boogie_tree.specs.Value as b
use Rattle.boogie_tree.specs.Value.{Key, BScalar, Snap, Entry, BChoice}
use Rattle.boogie_tree.specs.Values.{is_default, IsReducedScalar, IsReducedEntry, IsReducedChoice}
use Rattle.moves.specs.Scalars.{scalar}
use Rattle.moves.specs.Maps.{place_key, instance_key}
use Rattle.moves.specs.Moves.{heap_choice, content_choice, moves_of, moves}
use Rattle.moves.specs.Lists.{is_empty}
use Rattle.moves.specs.Printable.{IsNamedScalar, IsNamedEntry, IsNamedMove, IsWithinScalar, IsWithinEntry, IsWithinMove, IsSpellable, IsSpellableKey, IsPrintableChoice}
use Rattle.moves.proofs.MapLaws.{heap_of_type, contents_of_type}

-- ---- lists

both : {X : Type 0} (P Q : X → Type 0) (xs : List X) → All P xs → All Q xs → All (λ x. P x × Q x) xs
both P Q [] h k = All-nil (λ x. P x × Q x)
both P Q (x ∷ xs) h k = All-cons (λ y. P y × Q y) x xs (All-head P x xs h, All-head Q x xs k) (both P Q xs (All-tail P x xs h) (All-tail Q x xs k))

-- ---- values

pub scalar_reduced : (x : Value) → IsReducedValue x → IsReducedScalar (scalar x)
scalar_reduced (value.Int n) h = tt
scalar_reduced (value.Bool t) h = tt
scalar_reduced (value.Ref r) h = tt
scalar_reduced (value.Perm q) h = h

scalar_spellable : (x : Value) → IsReducedValue x → IsWithinValue x → IsNamedScalar (scalar x) → IsSpellable (scalar x)
scalar_spellable (value.Int n) h w named = w
scalar_spellable (value.Bool t) h w named = tt
scalar_spellable (value.Ref r) h w named = named
scalar_spellable (value.Perm q) h w named = (h, w)

-- a value other than the default of its type
other_scalar : (x : Value) → value_eq x (v.default_of (v.type_of x)) ≡ false → is_default (scalar x) ≡ false
other_scalar (value.Int n) h = h
other_scalar (value.Bool t) h = h
other_scalar (value.Ref r) h = h
other_scalar (value.Perm q) h = h

-- ---- the entries of maps

module _ {K V : Type 0} (f : K → Key) (g : V → BScalar) where
  abbrev listed : List (K × V) → List Entry
  listed es = map (λ (e : K × V). record { key = f e.0; value = g e.1 }) es

  listed_keys : (es : List (K × V)) → map (λ (e : Entry). e.key) (listed es) ≡ keys_of (map {B = Key × BScalar} (λ (e : K × V). (f e.0, g e.1)) es)
  listed_keys [] = refl
  listed_keys (e ∷ es) = ap (λ ks. f e.0 ∷ ks) (listed_keys es)

  -- what follows of each entry
  each_entry : (P : K → Type 0) (Q : V → Type 0) (N R : Entry → Type 0) → ((k : K) (x : V) → P k → Q x → N (record { key = f k; value = g x }) → R (record { key = f k; value = g x })) →
      (es : List (K × V)) → All P (keys_of es) → All Q (values_of es) → All N (listed es) → All R (listed es)
  each_entry P Q N R go [] p q n = All-nil R
  each_entry P Q N R go (e ∷ es) p q n =
      All-cons R (record { key = f e.0; value = g e.1 }) (listed es) (go e.0 e.1 (All-head P e.0 (keys_of es) p) (All-head Q e.1 (values_of es) q) (All-head N (record { key = f e.0; value = g e.1 }) (listed es) n))
      (each_entry P Q N R go es (All-tail P e.0 (keys_of es) p) (All-tail Q e.1 (values_of es) q) (All-tail N (record { key = f e.0; value = g e.1 }) (listed es) n))

abbrev anything : {X : Type 0} → X → Type 0
anything x = ⊤

all_anything : {X : Type 0} (xs : List X) → All anything xs
all_anything [] = All-nil anything
all_anything (x ∷ xs) = All-cons anything x xs tt (all_anything xs)

pub place_within : (r : ℕ) → IsWithinKey (place_key r)
place_within r = All-cons IsWithinPart (part.Ref r) [] tt (All-nil IsWithinPart)

zero_within : IsWithin (pos 0)
zero_within = omega arith

pub instance_within : (k : Key) → IsWithinKey k → IsWithinKey (instance_key k)
instance_within [] h = All-cons IsWithinPart (part.Int (pos 0)) [] zero_within (All-nil IsWithinPart)
instance_within (a ∷ k) h = h

instance_some : (k : Key) → is_empty (instance_key k) ≡ false
instance_some [] = refl
instance_some (a ∷ k) = refl

heap_reduced : (u : Ty) (m : Map ℕ Value) → FitsHeap u m → IsReducedChoice (heap_choice m)
heap_reduced u m h =
    each_entry place_key scalar anything (FitsValue u) anything IsReducedEntry (λ r x p fits n. scalar_reduced x fits.reduced) m.entries (all_anything (keys m)) h.values (all_anything (listed place_key scalar m.entries))

contents_reduced : (us : List Ty) (m : Map Key Content) → FitsContents us m → IsReducedChoice (content_choice m)
contents_reduced us m h =
    each_entry instance_key Snap anything IsReducedContent anything IsReducedEntry (λ k c p reduced n. reduced) m.entries (all_anything (keys m)) h.values (all_anything (listed instance_key Snap m.entries))

heap_printable : (u : Ty) (m : Map ℕ Value) → FitsHeap u m → HasValues IsWithinValue m → IsNamedMove (heap_choice m) → IsPrintableChoice (heap_choice m)
heap_printable u m h w named =
    let es = m.entries in
    let all = listed place_key scalar es in
    record {
      ascending = subst (IsStrictlySortedBy key_cmp) (sym (listed_keys place_key scalar es)) (heap_of_type u m h).reduced.ascending;
      parts = each_entry place_key scalar anything anything anything (λ e. is_empty e.key ≡ false) (λ r x p q n. refl) es (all_anything (keys m)) (all_anything (values m)) (all_anything all);
      others = each_entry place_key scalar anything (λ x. FitsValue u x × (value_eq x m.default ≡ false)) anything (λ e. is_default e.value ≡ false)
          (λ r x p q n. other_scalar x (ap (λ d. value_eq x d) (ap v.default_of q.0.typed ∙ sym h.default) ∙ q.1)) es (all_anything (keys m))
          (both (FitsValue u) (λ x. value_eq x m.default ≡ false) (values m) h.values h.reduced.no_default) (all_anything all);
      spellable = each_entry place_key scalar anything (λ x. FitsValue u x × IsWithinValue x) IsNamedEntry (λ e. IsSpellableKey e.key × IsSpellable e.value)
          (λ r x p q n. ((place_within r, n.0), scalar_spellable x q.0.reduced q.1 n.1)) es (all_anything (keys m)) (both (FitsValue u) IsWithinValue (values m) h.values w.others) named;
    }

pub contents_printable : (us : List Ty) (m : Map Key Content) → FitsContents us m → HasEntries IsWithinKey IsWithinContent m → IsNamedMove (content_choice m) → IsPrintableChoice (content_choice m)
contents_printable us m h w named =
    let es = m.entries in
    let all = listed instance_key Snap es in
    record {
      ascending = subst (IsStrictlySortedBy key_cmp) (sym (listed_keys instance_key Snap es)) (contents_of_type us m h).reduced.ascending;
      parts = each_entry instance_key Snap anything anything anything (λ e. is_empty e.key ≡ false) (λ k x p q n. instance_some k) es (all_anything (keys m)) (all_anything (values m)) (all_anything all);
      others = each_entry instance_key Snap anything (λ c. same_content c m.default ≡ false) anything (λ e. is_default e.value ≡ false)
          (λ k c p q n. ap (same_content c) (sym h.default) ∙ q) es (all_anything (keys m)) h.reduced.no_default (all_anything all);
      spellable = each_entry instance_key Snap IsWithinKey (λ c. IsReducedContent c × IsWithinContent c) IsNamedEntry (λ e. IsSpellableKey e.key × IsSpellable e.value)
          (λ k c p q n. ((instance_within k p, n.0), (q.0, q.1, n.1))) es w.keys (both IsReducedContent IsWithinContent (values m) h.values w.values.others) named;
    }

-- ---- what is said of one map is said of all

maps_each : {U M : Type 0} (F : U → M → Type 0) (W : M → Type 0) (choice : M → BChoice) (N R : BChoice → Type 0) → ((u : U) (m : M) → F u m → W m → N (choice m) → R (choice m)) →
    (us : List U) (ms : List M) → AllZip F us ms → All W ms → All N (map choice ms) → All R (map choice ms)
maps_each F W choice N R go [] [] h w n = All-nil R
maps_each F W choice N R go [] (m ∷ ms) h w n = absurd h
maps_each F W choice N R go (u ∷ us) [] h w n = absurd h
maps_each F W choice N R go (u ∷ us) (m ∷ ms) h w n =
    All-cons R (choice m) (map choice ms) (go u m h.0 (All-head W m ms w) (All-head N (choice m) (map choice ms) n)) (maps_each F W choice N R go us ms h.1 (All-tail W m ms w) (All-tail N (choice m) (map choice ms) n))

-- ---- events

pub event_reduced : (layout : Layout) (e : Event) → FitsEvent layout e → All IsReducedChoice (moves_of e)
event_reduced layout (Branch p) h = All-cons IsReducedChoice (b.Pick p) [] tt (All-nil IsReducedChoice)
event_reduced layout (Took x) h = All-cons IsReducedChoice (b.Value (scalar x)) [] (scalar_reduced x h) (All-nil IsReducedChoice)
event_reduced layout (Wild q) h = All-cons IsReducedChoice (b.Value (b.Real q)) [] h (All-nil IsReducedChoice)
event_reduced layout (Fresh r) h = All-cons IsReducedChoice (b.Value (b.Ref r)) [] tt (All-nil IsReducedChoice)
event_reduced layout (Whole m) h =
    All-append IsReducedChoice (map heap_choice m.heap) (map content_choice m.content)
    (maps_each FitsHeap anything heap_choice anything IsReducedChoice (λ u x fits w n. heap_reduced u x fits) layout.fields m.heap h.heap (all_anything m.heap) (all_anything (map heap_choice m.heap)))
    (maps_each FitsContents anything content_choice anything IsReducedChoice (λ us x fits w n. contents_reduced us x fits) layout.keys m.content h.content (all_anything m.content) (all_anything (map content_choice m.content)))
event_reduced layout (Split c d) h = All-cons IsReducedChoice (b.Value (Snap c)) (b.Value (Snap d) ∷ []) h.0 (All-cons IsReducedChoice (b.Value (Snap d)) [] h.1 (All-nil IsReducedChoice))
event_reduced layout (Leaf x) h = All-cons IsReducedChoice (b.Value (scalar x)) [] (scalar_reduced x h) (All-nil IsReducedChoice)

pub moves_reduced : (layout : Layout) (es : List Event) → All (FitsEvent layout) es → All IsReducedChoice (moves es)
moves_reduced layout [] h = All-nil IsReducedChoice
moves_reduced layout (e ∷ es) h =
    All-append IsReducedChoice (moves_of e) (moves es) (event_reduced layout e (All-head (FitsEvent layout) e es h)) (moves_reduced layout es (All-tail (FitsEvent layout) e es h))

pub one_printable : (c : BChoice) → IsPrintableChoice c → All IsPrintableChoice (c ∷ [])
one_printable c h = All-cons IsPrintableChoice c [] h (All-nil IsPrintableChoice)

named_first : (c : BChoice) (cs : List BChoice) → All IsNamedMove (c ∷ cs) → IsNamedMove c
named_first c cs h = All-head IsNamedMove c cs h

pub event_printable : (layout : Layout) (e : Event) → FitsEvent layout e → IsWithinEvent e → All IsNamedMove (moves_of e) → All IsPrintableChoice (moves_of e)
event_printable layout (Branch p) h w n = one_printable (b.Pick p) tt
event_printable layout (Took x) h w n = one_printable (b.Value (scalar x)) (scalar_spellable x h w (named_first (b.Value (scalar x)) [] n))
event_printable layout (Wild q) h w n = one_printable (b.Value (b.Real q)) (h, w)
event_printable layout (Fresh r) h w n = one_printable (b.Value (b.Ref r)) (named_first (b.Value (b.Ref r)) [] n)
event_printable layout (Whole m) h w n =
    All-append IsPrintableChoice (map heap_choice m.heap) (map content_choice m.content)
    (maps_each FitsHeap (HasValues IsWithinValue) heap_choice IsNamedMove IsPrintableChoice heap_printable layout.fields m.heap h.heap w.heap (all_left IsNamedMove (map heap_choice m.heap) (map content_choice m.content) n))
    (maps_each FitsContents (HasEntries IsWithinKey IsWithinContent) content_choice IsNamedMove IsPrintableChoice contents_printable layout.keys m.content h.content w.content
    (all_right IsNamedMove (map heap_choice m.heap) (map content_choice m.content) n))
event_printable layout (Split c d) h w n =
    let rest = b.Value (Snap d) ∷ [] in
    All-cons IsPrintableChoice (b.Value (Snap c)) rest (h.0, w.0, named_first (b.Value (Snap c)) rest n)
    (one_printable (b.Value (Snap d)) (h.1, w.1, named_first (b.Value (Snap d)) [] (All-tail IsNamedMove (b.Value (Snap c)) rest n)))
event_printable layout (Leaf x) h w n = one_printable (b.Value (scalar x)) (scalar_spellable x h w (named_first (b.Value (scalar x)) [] n))

pub moves_printable : (layout : Layout) (es : List Event) → All (FitsEvent layout) es → All IsWithinEvent es → All IsNamedMove (moves es) → All IsPrintableChoice (moves es)
moves_printable layout [] h w n = All-nil IsPrintableChoice
moves_printable layout (e ∷ es) h w n =
    All-append IsPrintableChoice (moves_of e) (moves es)
    (event_printable layout e (All-head (FitsEvent layout) e es h) (All-head IsWithinEvent e es w) (all_left IsNamedMove (moves_of e) (moves es) n))
    (moves_printable layout es (All-tail (FitsEvent layout) e es h) (All-tail IsWithinEvent e es w) (all_right IsNamedMove (moves_of e) (moves es) n))

-- ---- within the bound

scalar_within : (x : Value) → IsWithinValue x → IsWithinScalar (scalar x)
scalar_within (value.Int n) w = w
scalar_within (value.Bool t) w = tt
scalar_within (value.Ref r) w = tt
scalar_within (value.Perm q) w = w

heap_within : (m : Map ℕ Value) → HasValues IsWithinValue m → IsWithinMove (heap_choice m)
heap_within m w =
    each_entry place_key scalar anything IsWithinValue anything IsWithinEntry (λ r x p q n. (place_within r, scalar_within x q)) m.entries (all_anything (keys m)) w.others
    (all_anything (listed place_key scalar m.entries))

contents_within : (m : Map Key Content) → HasEntries IsWithinKey IsWithinContent m → IsWithinMove (content_choice m)
contents_within m w =
    each_entry instance_key Snap IsWithinKey IsWithinContent anything IsWithinEntry (λ k c p q n. (instance_within k p, q)) m.entries w.keys w.values.others
    (all_anything (listed instance_key Snap m.entries))

all_within : {M : Type 0} (W : M → Type 0) (choice : M → BChoice) → ((m : M) → W m → IsWithinMove (choice m)) → (ms : List M) → All W ms → All IsWithinMove (map choice ms)
all_within W choice go [] w = All-nil IsWithinMove
all_within W choice go (m ∷ ms) w = All-cons IsWithinMove (choice m) (map choice ms) (go m (All-head W m ms w)) (all_within W choice go ms (All-tail W m ms w))

one_within : (c : BChoice) → IsWithinMove c → All IsWithinMove (c ∷ [])
one_within c w = All-cons IsWithinMove c [] w (All-nil IsWithinMove)

event_within : (e : Event) → IsWithinEvent e → All IsWithinMove (moves_of e)
event_within (Branch p) w = one_within (b.Pick p) tt
event_within (Took x) w = one_within (b.Value (scalar x)) (scalar_within x w)
event_within (Wild q) w = one_within (b.Value (b.Real q)) w
event_within (Fresh r) w = one_within (b.Value (b.Ref r)) tt
event_within (Whole m) w =
    All-append IsWithinMove (map heap_choice m.heap) (map content_choice m.content) (all_within (HasValues IsWithinValue) heap_choice heap_within m.heap w.heap)
    (all_within (HasEntries IsWithinKey IsWithinContent) content_choice contents_within m.content w.content)
event_within (Split c d) w = All-cons IsWithinMove (b.Value (Snap c)) (b.Value (Snap d) ∷ []) w.0 (one_within (b.Value (Snap d)) w.1)
event_within (Leaf x) w = one_within (b.Value (scalar x)) (scalar_within x w)

pub moves_within : (es : List Event) → All IsWithinEvent es → All IsWithinMove (moves es)
moves_within [] w = All-nil IsWithinMove
moves_within (e ∷ es) w =
    All-append IsWithinMove (moves_of e) (moves es) (event_within e (All-head IsWithinEvent e es w)) (moves_within es (All-tail IsWithinEvent e es w))
