-- The laws of maps whose keys and values are seen through what they mean.
use Rattle.std.proofs.Common.{◌≡◌, Bool, true, false, cond, List, [], ◌∷◌, refl, sym, ap, ◌∙◌, map, unwrap_or, All}
use Rattle.std.specs.List.{AllByRecursion, AllZip}
use Rattle.std.specs.List.Sorted.{IsStrictlySortedBy}
use Rattle.std.specs.Map.{keys_of, values_of, lookup, remove_entry}
use Rattle.std.specs.BTreeMap.{insert_entry, is_at}
use Rattle.std.specs.Option.{option_map}
use Rattle.std.specs.Ordering.{is_eq, match_ordering, on}
use Rattle.std.specs.declared.cmp.Ordering.{Ordering}
use Rattle.std.specs.declared.cmp.Ordering.TheVariants.{Less, Equal, Greater}
use Rattle.std.specs.declared.option.Option.{Option}
use Rattle.std.specs.declared.option.Option.TheVariants.{Some, None}
use Rattle.std.proofs.lemmas.Cmp.{tied_itself}
use Rattle.std.proofs.lemmas.List.Elements.{All-nil, All-cons, All-head, All-tail}
use Rattle.sparse.specs.Map.{Map, keys, get, set, IsReduced, IsSame, ClonesAreEqual}
use Rattle.sparse.specs.Meaning.{IsExact, IsMeaning, meaning_of}
use Rattle.sparse.proofs.MapLaws.{map_from_same}

module _ {K V M N : Type 0} {cmp : K → K → Ordering} {eq : V → V → Bool} {f : K → M} {g : V → N} {order : M → M → Ordering} {same : N → N → Bool} (x : IsMeaning cmp eq f g order same) where
  abbrev means : List (K × V) → List (M × N)
  means es = map {B = M × N} (λ (e : K × V). (f e.0, g e.1)) es

  lookup-cond : (b : Bool) (v : V) (t : Option V) → cond b (Some (g v)) (option_map g t) ≡ option_map g (cond b (Some v) t)
  lookup-cond true v t = refl
  lookup-cond false v t = refl

  lookup-means : (k : K) (es : List (K × V)) → lookup (is_at (order (f k))) (means es) ≡ option_map g (lookup (is_at (cmp k)) es)
  lookup-means k [] = refl
  lookup-means k (e ∷ es) =
      ap (λ o. cond (is_eq o) (Some (g e.1)) (lookup (is_at (order (f k))) (means es))) (sym (x.keys k e.0))
      ∙ ap (λ t. cond (is_eq (cmp k e.0)) (Some (g e.1)) t) (lookup-means k es)
      ∙ lookup-cond (is_eq (cmp k e.0)) e.1 (lookup (is_at (cmp k)) es)

  default-means : (t : Option V) (z : V) → unwrap_or (option_map g t) (g z) ≡ g (unwrap_or t z)
  default-means None z = refl
  default-means (Some v) z = refl

  -- the value at a key means the value at what the key means
  pub get-meaning_of : (m : Map K V) (k : K) → get order (meaning_of f g m) (f k) ≡ g (get cmp m k)
  get-meaning_of m k = ap (λ t. unwrap_or t (g m.default)) (lookup-means k m.entries) ∙ default-means (lookup (is_at (cmp k)) m.entries) m.default

  keys-means : (es : List (K × V)) → keys_of (means es) ≡ map f (keys_of es)
  keys-means [] = refl
  keys-means (e ∷ es) = ap (λ ks. f e.0 ∷ ks) (keys-means es)

  -- the keys mean the keys of the meaning
  pub keys-meaning_of : (m : Map K V) → keys (meaning_of f g m) ≡ map f (keys m)
  keys-meaning_of m = keys-means m.entries

  match-means : (r : Ordering) (front middle back : List (K × V)) → match_ordering r (means front) (means middle) (means back) ≡ means (match_ordering r front middle back)
  match-means Less front middle back = refl
  match-means Equal front middle back = refl
  match-means Greater front middle back = refl

  insert-means : (k : K) (v : V) (es : List (K × V)) → insert_entry order (means es) (f k) (g v) ≡ means (insert_entry cmp es k v)
  insert-means k v [] = refl
  insert-means k v (e ∷ es) =
      ap (λ o. match_ordering o ((f k, g v) ∷ means (e ∷ es)) ((f e.0, g v) ∷ means es) ((f e.0, g e.1) ∷ insert_entry order (means es) (f k) (g v))) (sym (x.keys k e.0))
      ∙ ap (λ t. match_ordering (cmp k e.0) ((f k, g v) ∷ means (e ∷ es)) ((f e.0, g v) ∷ means es) ((f e.0, g e.1) ∷ t)) (insert-means k v es)
      ∙ match-means (cmp k e.0) ((k, v) ∷ e ∷ es) ((e.0, v) ∷ es) (e ∷ insert_entry cmp es k v)

  cond-means : (b : Bool) (front back : List (K × V)) → cond b (means front) (means back) ≡ means (cond b front back)
  cond-means true front back = refl
  cond-means false front back = refl

  remove-means : (k : K) (es : List (K × V)) → remove_entry (is_at (order (f k))) (means es) ≡ means (remove_entry (is_at (cmp k)) es)
  remove-means k [] = refl
  remove-means k (e ∷ es) =
      ap (λ o. cond (is_eq o) (means es) ((f e.0, g e.1) ∷ remove_entry (is_at (order (f k))) (means es))) (sym (x.keys k e.0))
      ∙ ap (λ t. cond (is_eq (cmp k e.0)) (means es) ((f e.0, g e.1) ∷ t)) (remove-means k es)
      ∙ cond-means (is_eq (cmp k e.0)) es (e ∷ remove_entry (is_at (cmp k)) es)

  -- a change of a map means the change of its meaning
  pub set-meaning_of : (m : Map K V) (k : K) (v : V) → set order same (meaning_of f g m) (f k) (g v) ≡ meaning_of f g (set cmp eq m k v)
  set-meaning_of m k v =
      let es : cond (same (g v) (g m.default)) (remove_entry (is_at (order (f k))) (means m.entries)) (insert_entry order (means m.entries) (f k) (g v)) ≡ means (cond (eq v m.default) (remove_entry (is_at (cmp k)) m.entries) (insert_entry cmp m.entries k v)) =
      ap (λ b. cond b (remove_entry (is_at (order (f k))) (means m.entries)) (insert_entry order (means m.entries) (f k) (g v))) (sym (x.values v m.default))
      ∙ ap (λ t. cond (eq v m.default) t (insert_entry order (means m.entries) (f k) (g v))) (remove-means k m.entries)
      ∙ ap (λ t. cond (eq v m.default) (means (remove_entry (is_at (cmp k)) m.entries)) t) (insert-means k v m.entries)
      ∙ cond-means (eq v m.default) (remove_entry (is_at (cmp k)) m.entries) (insert_entry cmp m.entries k v) in
      λ i. record { default = g m.default; entries = es i }

  below-means : (k : K) (es : List (K × V)) → AllByRecursion (λ q. cmp k q ≡ Less) (keys_of es) → AllByRecursion (λ q. order (f k) q ≡ Less) (keys_of (means es))
  below-means k [] a = tt
  below-means k (e ∷ es) a = (sym (x.keys k e.0) ∙ a.0, below-means k es a.1)

  ascending-means : (es : List (K × V)) → IsStrictlySortedBy cmp (keys_of es) → IsStrictlySortedBy order (keys_of (means es))
  unfolding IsStrictlySortedBy
  ascending-means [] s = tt
  ascending-means (e ∷ es) s = (below-means e.0 es s.0, ascending-means es s.1)

  no_default-means : (z : V) (es : List (K × V)) → All (λ v. eq v z ≡ false) (values_of es) → All (λ v. same v (g z) ≡ false) (values_of (means es))
  no_default-means z [] a = All-nil (λ v. same v (g z) ≡ false)
  no_default-means z (e ∷ es) a =
      All-cons (λ v. same v (g z) ≡ false) (g e.1) (values_of (means es)) (sym (x.values e.1 z) ∙ All-head (λ v. eq v z ≡ false) e.1 (values_of es) a) (no_default-means z es (All-tail (λ v. eq v z ≡ false) e.1 (values_of es) a))

  -- the meaning of a reduced map is reduced
  pub IsReduced-meaning_of : (m : Map K V) → IsReduced cmp eq m → IsReduced order same (meaning_of f g m)
  IsReduced-meaning_of m r = record {
    ascending = ascending-means m.entries r.ascending;
    no_default = no_default-means m.default m.entries r.no_default;
  }

  alike-means : (es fs : List (K × V)) → AllZip (λ p q. (cmp p.0 q.0 ≡ Equal) × (eq p.1 q.1 ≡ true)) es fs → AllZip (λ p q. (order p.0 q.0 ≡ Equal) × (same p.1 q.1 ≡ true)) (means es) (means fs)
  alike-means [] [] a = tt
  alike-means [] (e ∷ fs) a = absurd a
  alike-means (d ∷ es) [] a = absurd a
  alike-means (d ∷ es) (e ∷ fs) a = ((sym (x.keys d.0 e.0) ∙ a.0.0, sym (x.values d.1 e.1) ∙ a.0.1), alike-means es fs a.1)

  IsSame-meaning_of : (m n : Map K V) → IsSame cmp eq m n → IsSame order same (meaning_of f g m) (meaning_of f g n)
  IsSame-meaning_of m n a = record { default = sym (x.values m.default n.default) ∙ a.default; entries = alike-means m.entries n.entries a.entries }

  module _ (exact : IsExact order same) where
    -- maps that the order and the equality do not tell apart have equal meanings
    pub meaning_of-same : (m n : Map K V) → IsSame cmp eq m n → meaning_of f g m ≡ meaning_of f g n
    meaning_of-same m n a = map_from_same exact (meaning_of f g m) (meaning_of f g n) (IsSame-meaning_of m n a)

    -- so what `set` leaves means the change of what was there
    pub meaning_of-set : (m n : Map K V) (k : K) (v : V) → IsSame cmp eq (set cmp eq m k v) n → meaning_of f g n ≡ set order same (meaning_of f g m) (f k) (g v)
    meaning_of-set m n k v a = sym (meaning_of-same (set cmp eq m k v) n a) ∙ sym (set-meaning_of m k v)

-- where keys and values are compared by what they mean
pub IsMeaning-on : {K V M N : Type 0} (f : K → M) (g : V → N) (order : M → M → Ordering) (same : N → N → Bool) → IsMeaning (on f order) (on g same) f g order same
IsMeaning-on f g order same = record { keys = λ k q. refl; values = λ v w. refl }

-- and where they mean themselves
pub IsMeaning-itself : {K V : Type 0} (cmp : K → K → Ordering) (eq : V → V → Bool) → IsMeaning cmp eq (λ k. k) (λ v. v) cmp eq
IsMeaning-itself cmp eq = record { keys = λ k q. refl; values = λ v w. refl }

-- a clone that means what its source means is equal to it
pub ClonesAreEqual-from_meaning : {K V M N : Type 0} {cmp : K → K → Ordering} {eq : V → V → Bool} {f : K → M} {g : V → N} {order : M → M → Ordering} {same : N → N → Bool} {kc : K → K → Type 0} {vc : V → V → Type 0} → IsMeaning cmp eq f g order same → IsExact order same → ((k q : K) → kc k q → f q ≡ f k) → ((v w : V) → vc v w → g w ≡ g v) → ClonesAreEqual cmp eq kc vc
ClonesAreEqual-from_meaning {f = f} {g} {order} {same} x exact key value = record {
  keys = λ k q h. x.keys k q ∙ ap (λ p. order (f k) p) (key k q h) ∙ tied_itself exact.total (f k);
  values = λ v w h. x.values v w ∙ (exact.values (g v) (g w)).1 (sym (value v w h));
}
