-- Types of values, of maps and of what a choice gives.
use Rattle.std.proofs.Common.{◌≡◌, ℕ, zero, suc, Bool as Truth, true, false, ◌&&◌, cond, Option, Some, None, unwrap_or, List, [], ◌∷◌, All, slice_get, slice_set, if◌then◌else◌, refl, sym, ap, subst, ◌∙◌}
use Rattle.std.specs.Map.{keys_of, values_of, lookup}
use Rattle.std.specs.BTreeMap.{is_at}
use Rattle.std.specs.List.Sorted.{IsStrictlySortedBy}
use Rattle.std.specs.Ordering.{eq_by_cmp}
use Rattle.std.specs.Cmp.{IsEquivalence}
use Rattle.std.proofs.lemmas.Cmp.{eq_by_cmp_equiv}
use Rattle.std.proofs.lemmas.Map.{lookup-none}
use Rattle.std.proofs.lemmas.Map.Keys.{IsDistinct-from_sorted, sorted_tail}
use Rattle.std.proofs.lemmas.Map.Entries.{none_past_head}
use Rattle.std.proofs.lemmas.List.Elements.{All-nil, All-head, All-tail}
use Rattle.lemmas.proofs.Tests.{and_parts}
use Rattle.sparse.specs.Map.{Map, empty, get, set, IsReduced}
use Rattle.sparse.specs.Meaning.{IsExact}
use Rattle.sparse.proofs.MapLaws.{IsReduced-empty, IsReduced-set, get-All, All-values-set, All-keys-set, map_from_get, get-set_is}
use Rattle.vb_value.specs.Key.{key_cmp}
use Rattle.vb_value.specs.KeyOrder.{key_cmp_total}
use Rattle.vb_value.proofs.KeyLaws.{same_from_key_cmp}
use Rattle.vb_value.proofs.ReducedLaws.{IsReduced-none}
use Rattle.boogie_tree.specs.Program.{BType}
use Rattle.boogie_tree.specs.Value.{Key, BScalar, same_scalar, BValue, One, Many, Entry, BChoice, Pick, Value, Entries}
use Rattle.boogie_tree.specs.Equality.{Decides-same_scalar}
use Rattle.boogie_tree.specs.declared.exprs.BBase.{BBase}
use Rattle.boogie_tree.specs.declared.exprs.BBase.TheVariants as base
use Rattle.boogie_tree.specs.Values.{same_base, base_of_scalar, FitsScalar, FitsKey, fits_key, IsMapOf, IsOfType, one, many, IsEnvironment, default_of, plain_type, map_type, IsReducedEntry, IsReducedChoice}
use Rattle.boogie_meaning.specs.Decided.{Decides-same_base, Decides-fits_key}
use Rattle.boogie_meaning.specs.Run.{fits_entries, filled, chosen_by, chosen, entries_of, choice_for}
use Rattle.boogie_meaning.specs.Programs.{default_by}

-- keys and values are told apart
pub exact : IsExact key_cmp same_scalar
exact = record { total = key_cmp_total; keys = same_from_key_cmp; values = Decides-same_scalar }

-- ---- maps

pub default_fits : (u : BBase) → FitsScalar u (default_of u)
default_fits base.Int = record { typed = refl; reduced = tt }
default_fits base.Bool = record { typed = refl; reduced = tt }
default_fits base.Ref = record { typed = refl; reduced = tt }
default_fits base.Real = record { typed = refl; reduced = IsReduced-none }
default_fits base.Snap = record { typed = refl; reduced = tt }

module _ {us : List BBase} {u : BBase} where
  pub empty_typed : IsMapOf us u (empty (default_of u))
  empty_typed = record { default = refl; reduced = IsReduced-empty key_cmp_total (default_of u); keys = All-nil (FitsKey us); values = All-nil (FitsScalar u) }

  module _ {m : Map Key BScalar} (h : IsMapOf us u m) where
    pub get_typed : (k : Key) → FitsScalar u (get key_cmp m k)
    get_typed k = get-All key_cmp (FitsScalar u) m k (subst (FitsScalar u) (sym h.default) (default_fits u)) h.values

    pub set_typed : (k : Key) (v : BScalar) → FitsKey us k → FitsScalar u v → IsMapOf us u (set key_cmp same_scalar m k v)
    set_typed k v f g = record {
      default = h.default;
      reduced = IsReduced-set key_cmp_total m h.reduced k v;
      keys = All-keys-set key_cmp same_scalar m k v (FitsKey us) h.keys f;
      values = All-values-set key_cmp same_scalar m k v (FitsScalar u) h.values g;
    }

pub default_typed : (us : List BBase) (u : BBase) → IsOfType (default_by us u) (record { keys = us; base = u })
default_typed [] u = one (default_fits u)
default_typed (k ∷ ks) u = many empty_typed

-- ---- environments

pub found_typed : (ls : List BType) (env : List BValue) (i : ℕ) (u : BType) → IsEnvironment ls env → slice_get ls i ≡ Some u → (v : BValue) × (slice_get env i ≡ Some v) × IsOfType v u
found_typed [] env i u h there = absurd (cc)
found_typed (l ∷ ls) [] i u h there = absurd h
found_typed (l ∷ ls) (v ∷ vs) zero u h there = let e : l ≡ u = cc in (v, refl, subst (IsOfType v) e h.0)
found_typed (l ∷ ls) (v ∷ vs) (suc i) u h there = found_typed ls vs i u h.1 there

pub stored_typed : (ls : List BType) (env : List BValue) (i : ℕ) (u : BType) (v : BValue) → IsEnvironment ls env → slice_get ls i ≡ Some u → IsOfType v u → IsEnvironment ls (slice_set env i v)
stored_typed [] [] i u v h there t = tt
stored_typed [] (w ∷ ws) i u v h there t = absurd h
stored_typed (l ∷ ls) [] i u v h there t = absurd h
stored_typed (l ∷ ls) (w ∷ ws) zero u v h there t = let e : u ≡ l = cc in (subst (IsOfType v) e t, h.1)
stored_typed (l ∷ ls) (w ∷ ws) (suc i) u v h there t = (h.0, stored_typed ls ws i u v h.1 there t)

-- ---- what a choice gives

filled_typed : (us : List BBase) (u : BBase) (es : List Entry) (m : Map Key BScalar) → IsMapOf us u m → fits_entries us u es ≡ true → All IsReducedEntry es → IsMapOf us u (filled m es)
filled_typed us u [] m h f r = h
filled_typed us u (e ∷ es) m h f r =
    let p = and_parts (fits_key us e.key && same_base (base_of_scalar e.value) u) (fits_entries us u es) f in
    let q = and_parts (fits_key us e.key) (same_base (base_of_scalar e.value) u) p.0 in
    let k = (Decides-fits_key us e.key).0 q.0 in
    let v : FitsScalar u e.value = record { typed = (Decides-same_base (base_of_scalar e.value) u).0 q.1; reduced = All-head IsReducedEntry e es r } in
    filled_typed us u es (set key_cmp same_scalar m e.key e.value) (set_typed h e.key e.value k v) p.1 (All-tail IsReducedEntry e es r)

one_if : (p : Truth) (v : BScalar) (w : BValue) (u : BBase) → (p ≡ true → FitsScalar u v) → (if p then Some (One v) else None) ≡ Some w → IsOfType w (plain_type u)
one_if true v w u f h = let e : One v ≡ w = cc in subst (λ x. IsOfType x (plain_type u)) e (one (f refl))
one_if false v w u f h = absurd (cc)

many_if : (p : Truth) (m : Map Key BScalar) (w : BValue) (k : BBase) (ks : List BBase) (u : BBase) → (p ≡ true → IsMapOf (k ∷ ks) u m) → (if p then Some (Many m) else None) ≡ Some w →
    IsOfType w (map_type k ks u)
many_if true m w k ks u f h = let e : Many m ≡ w = cc in subst (λ x. IsOfType x (map_type k ks u)) e (many (f refl))
many_if false m w k ks u f h = absurd (cc)

chosen_by_typed : (us : List BBase) (u : BBase) (c : BChoice) (w : BValue) → IsReducedChoice c → chosen_by us u c ≡ Some w → IsOfType w (record { keys = us; base = u })
chosen_by_typed [] u (Value v) w r h = one_if (same_base (base_of_scalar v) u) v w u (λ p. record { typed = (Decides-same_base (base_of_scalar v) u).0 p; reduced = r }) h
chosen_by_typed [] u (Pick p) w r h = absurd (cc)
chosen_by_typed [] u (Entries es) w r h = absurd (cc)
chosen_by_typed (k ∷ ks) u (Value v) w r h = absurd (cc)
chosen_by_typed (k ∷ ks) u (Pick p) w r h = absurd (cc)
chosen_by_typed (k ∷ ks) u (Entries es) w r h =
    many_if (fits_entries (k ∷ ks) u es) (filled (empty (default_of u)) es) w k ks u (λ p. filled_typed (k ∷ ks) u es (empty (default_of u)) empty_typed p r) h

-- what a choice gives a variable is of its type
pub chosen_typed : (u : BType) (c : BChoice) (w : BValue) → IsReducedChoice c → chosen u c ≡ Some w → IsOfType w u
chosen_typed u c w r h = chosen_by_typed u.keys u.base c w r h

-- ---- each value of the type is given by a choice

fits_entries_of : (us : List BBase) (u : BBase) (es : List (Key × BScalar)) → All (FitsKey us) (keys_of es) → All (FitsScalar u) (values_of es) → fits_entries us u (entries_of es) ≡ true
fits_entries_of us u [] h g = refl
fits_entries_of us u (e ∷ es) h g =
    let k = (Decides-fits_key us e.0).1 (All-head (FitsKey us) e.0 (keys_of es) h) in
    let f : FitsScalar u e.1 = All-head (FitsScalar u) e.1 (values_of es) g in
    let v = (Decides-same_base (base_of_scalar e.1) u).1 f.typed in
    let r = fits_entries_of us u es (All-tail (FitsKey us) e.0 (keys_of es) h) (All-tail (FitsScalar u) e.1 (values_of es) g) in
    rw (k, v, r) refl

filled_reduced : (es : List (Key × BScalar)) (m : Map Key BScalar) → IsReduced key_cmp same_scalar m → IsReduced key_cmp same_scalar (filled m (entries_of es))
filled_reduced [] m r = r
filled_reduced (e ∷ es) m r = filled_reduced es (set key_cmp same_scalar m e.0 e.1) (IsReduced-set key_cmp_total m r e.0 e.1)

filled_default : (es : List (Key × BScalar)) (m : Map Key BScalar) → (filled m (entries_of es)).default ≡ m.default
filled_default [] m = refl
filled_default (e ∷ es) m = filled_default es (set key_cmp same_scalar m e.0 e.1)

get-step : (p : Truth) (o : Option BScalar) (v z : BScalar) → (p ≡ true → o ≡ None) → unwrap_or o (cond p v z) ≡ unwrap_or (cond p (Some v) o) z
get-step true o v z h = rw (h refl) refl
get-step false o v z h = refl

filled_get : (es : List (Key × BScalar)) (m : Map Key BScalar) (q : Key) → IsReduced key_cmp same_scalar m → IsStrictlySortedBy key_cmp (keys_of es) →
    get key_cmp (filled m (entries_of es)) q ≡ unwrap_or (lookup (is_at (key_cmp q)) es) (get key_cmp m q)
filled_get [] m q r s = refl
filled_get (e ∷ es) m q r s =
    let laws : IsEquivalence (eq_by_cmp key_cmp) = eq_by_cmp_equiv key_cmp_total in
    let n = set key_cmp same_scalar m e.0 e.1 in
    filled_get es n q (IsReduced-set key_cmp_total m r e.0 e.1) (sorted_tail key_cmp e.0 (keys_of es) s)
    ∙ ap (λ v. unwrap_or (lookup (is_at (key_cmp q)) es) v) (get-set_is exact m r e.0 q e.1)
    ∙ get-step (is_at (key_cmp q) e.0) (lookup (is_at (key_cmp q)) es) e.1 (get key_cmp m q)
    (λ t. lookup-none (is_at (key_cmp q)) es (none_past_head laws q e es (IsDistinct-from_sorted key_cmp (keys_of (e ∷ es)) s) t))

-- the entries of a map, set one after the other, are the map
pub filled_again : (m : Map Key BScalar) → IsReduced key_cmp same_scalar m → filled (empty m.default) (entries_of m.entries) ≡ m
filled_again m r =
    let z = IsReduced-empty key_cmp_total m.default in
    map_from_get exact (filled (empty m.default) (entries_of m.entries)) m (filled_reduced m.entries (empty m.default) z) r (filled_default m.entries (empty m.default))
    (λ q. filled_get m.entries (empty m.default) q z r.ascending)

pub choice_gives : (v : BValue) (u : BType) → IsOfType v u → chosen u (choice_for v) ≡ Some v
choice_gives _ _ (one {v = v} {u = u} f) = rw ((Decides-same_base (base_of_scalar v) u).1 f.typed) refl
choice_gives _ _ (many {m = m} {u = u} {us = us} {w = w} h) =
    let e = fits_entries_of (u ∷ us) w m.entries h.keys h.values in
    rw e (ap (λ z. Some (Many (filled (empty z) (entries_of m.entries)))) (sym h.default) ∙ ap (λ n. Some (Many n)) (filled_again m h.reduced))
