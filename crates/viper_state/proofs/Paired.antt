-- Lists that are as long as one another, place by place, and lists of maps of which one is changed at a key.
use Rattle.std.proofs.Common.{◌≡◌, ◌≢◌, ◌⊎◌, inl, inr, ℕ, zero, suc, Bool, true, false, ◌==◌, List, [], ◌∷◌, length, replicate, All, Option, Some, None, slice_get, slice_set, refl, sym, ap, ◌∙◌, subst}
use Rattle.std.specs.List.{AllZip}
use Rattle.std.specs.Bool.{Decides}
use Rattle.std.specs.Option.{option_map, IfSome}
use Rattle.std.specs.declared.cmp.Ordering.{Ordering}
use Rattle.std.proofs.lemmas.Bool.Decides.{Decides-eqb}
use Rattle.std.proofs.lemmas.Bool.{true≢false}
use Rattle.std.proofs.lemmas.List.Elements.{All-nil, All-cons, All-head, All-tail, All-set}
use Rattle.sparse.specs.Map.{Map, get, set, IsReduced}
use Rattle.sparse.specs.Meaning.{IsExact}
use Rattle.sparse.proofs.MapLaws.{get-set_same, get-set_other}
use Rattle.viper_state.specs.State.{found_at, changed, changed_at}

-- ---- lists

pub get_set_same : {X : Type 0} (xs : List X) (n : ℕ) (x y : X) → slice_get xs n ≡ Some x → slice_get (slice_set xs n y) n ≡ Some y
get_set_same [] n x y e = cc
get_set_same (z ∷ xs) zero x y e = refl
get_set_same (z ∷ xs) (suc n) x y e = get_set_same xs n x y e

pub get_set_other : {X : Type 0} (xs : List X) (n g : ℕ) (y : X) → n ≢ g → slice_get (slice_set xs n y) g ≡ slice_get xs g
get_set_other [] n g y apart = refl
get_set_other (z ∷ xs) zero zero y apart = absurd (apart refl)
get_set_other (z ∷ xs) zero (suc g) y apart = refl
get_set_other (z ∷ xs) (suc n) zero y apart = refl
get_set_other (z ∷ xs) (suc n) (suc g) y apart = get_set_other xs n g y (λ e. apart (ap suc e))

pub All-found : {X : Type 0} (P : X → Type 0) (xs : List X) (n : ℕ) → All P xs → IfSome (slice_get xs n) P
All-found P [] n h = tt
All-found P (x ∷ xs) zero h = All-head P x xs h
All-found P (x ∷ xs) (suc n) h = All-found P xs n (All-tail P x xs h)

pub All-all : {X : Type 0} (P : X → Type 0) → ((x : X) → P x) → (xs : List X) → All P xs
All-all P go [] = All-nil P
All-all P go (x ∷ xs) = All-cons P x xs (go x) (All-all P go xs)

-- ---- two lists

module _ {U M : Type 0} (R : U → M → Type 0) where
  -- what stands at a place of the first has a fellow in the second, and the other way round
  pub paired : (us : List U) (ms : List M) (n : ℕ) (u : U) → AllZip R us ms → slice_get us n ≡ Some u → (m : M) × ((slice_get ms n ≡ Some m) × R u m)
  paired [] ms n u h e = cc
  paired (v ∷ us) [] n u h e = absurd h
  paired (v ∷ us) (m ∷ ms) zero u h e =
      let same : v ≡ u = cc in
      (m, (refl, subst (λ w. R w m) same h.0))
  paired (v ∷ us) (m ∷ ms) (suc n) u h e = paired us ms n u h.1 e

  pub paired_back : (us : List U) (ms : List M) (n : ℕ) (m : M) → AllZip R us ms → slice_get ms n ≡ Some m → (u : U) × ((slice_get us n ≡ Some u) × R u m)
  paired_back us [] n m h e = cc
  paired_back [] (k ∷ ms) n m h e = absurd h
  paired_back (u ∷ us) (k ∷ ms) zero m h e =
      let same : k ≡ m = cc in
      (u, (refl, subst (λ w. R u w) same h.0))
  paired_back (u ∷ us) (k ∷ ms) (suc n) m h e = paired_back us ms n m h.1 e

  paired_set : (us : List U) (ms : List M) (n : ℕ) (m : M) → AllZip R us ms → ((u : U) → slice_get us n ≡ Some u → R u m) → AllZip R us (slice_set ms n m)
  paired_set [] [] n m h go = tt
  paired_set [] (k ∷ ms) n m h go = absurd h
  paired_set (u ∷ us) [] n m h go = absurd h
  paired_set (u ∷ us) (k ∷ ms) zero m h go = (go u refl, h.1)
  paired_set (u ∷ us) (k ∷ ms) (suc n) m h go = (h.0, paired_set us ms n m h.1 go)

  -- as many of one item as the first list has
  pub paired_replicate : (us : List U) (m : M) → ((u : U) → R u m) → AllZip R us (replicate (length us) m)
  paired_replicate [] m go = tt
  paired_replicate (u ∷ us) m go = (go u, paired_replicate us m go)

  -- what holds of each item of the second list
  pub All-paired : (P : M → Type 0) → ((u : U) (m : M) → R u m → P m) → (us : List U) (ms : List M) → AllZip R us ms → All P ms
  All-paired P go [] [] h = All-nil P
  All-paired P go [] (m ∷ ms) h = absurd h
  All-paired P go (u ∷ us) [] h = absurd h
  All-paired P go (u ∷ us) (m ∷ ms) h = All-cons P m ms (go u m h.0) (All-paired P go us ms h.1)

-- ---- maps

module _ {K V : Type 0} (cmp : K → K → Ordering) (eq : V → V → Bool) where
  module _ {U : Type 0} (R : U → Map K V → Type 0) (us : List U) (maps : List (Map K V)) (n : ℕ) (k : K) (v : V) (h : AllZip R us maps) (go : (u : U) (m : Map K V) → slice_get us n ≡ Some u → R u m → R u (set cmp eq m k v)) where
    paired_by : (o : Option (Map K V)) → slice_get maps n ≡ o → AllZip R us (changed cmp eq maps n k v o)
    paired_by None e = h
    paired_by (Some m) e = paired_set R us maps n (set cmp eq m k v) h (λ u at. at_place u at (paired R us maps n u h at))
      where
        at_place : (u : U) → slice_get us n ≡ Some u → (l : Map K V) × ((slice_get maps n ≡ Some l) × R u l) → R u (set cmp eq m k v)
        at_place u at found =
            let same : found.0 ≡ m = cc in
            go u m at (subst (λ w. R u w) same found.1.1)

    -- a change of one map at a key keeps what holds of each map
    pub paired_changed : AllZip R us (changed_at cmp eq maps n k v)
    paired_changed = paired_by (slice_get maps n) refl

  module _ (P : Map K V → Type 0) (maps : List (Map K V)) (n : ℕ) (k : K) (v : V) (h : All P maps) (go : (m : Map K V) → P m → P (set cmp eq m k v)) where
    All-changed_by : (o : Option (Map K V)) → IfSome o P → All P (changed cmp eq maps n k v o)
    All-changed_by None p = h
    All-changed_by (Some m) p = All-set P maps n (set cmp eq m k v) (go m p) h

    pub All-changed : All P (changed_at cmp eq maps n k v)
    All-changed = All-changed_by (slice_get maps n) (All-found P maps n h)

-- ---- reading

module _ {K V : Type 0} {cmp : K → K → Ordering} {eq : V → V → Bool} (x : IsExact cmp eq) where
  -- what was set is read
  pub found_same : (maps : List (Map K V)) (n : ℕ) (k : K) (v : V) (m : Map K V) → slice_get maps n ≡ Some m → IsReduced cmp eq m → found_at cmp (changed_at cmp eq maps n k v) n k ≡ Some v
  found_same maps n k v m e r =
      let there : slice_get (changed_at cmp eq maps n k v) n ≡ Some (set cmp eq m k v) = ap (λ o. slice_get (changed cmp eq maps n k v o) n) e ∙ get_set_same maps n m (set cmp eq m k v) e in
      ap (option_map (λ l. get cmp l k)) there ∙ ap Some (get-set_same x m r k v)

  other_map : (maps : List (Map K V)) (n g : ℕ) (k q : K) (v : V) (o : Option (Map K V)) → n ≢ g → found_at cmp (changed cmp eq maps n k v o) g q ≡ found_at cmp maps g q
  other_map maps n g k q v None apart = refl
  other_map maps n g k q v (Some m) apart = ap (option_map (λ l. get cmp l q)) (get_set_other maps n g (set cmp eq m k v) apart)

  other_key : (maps : List (Map K V)) (n : ℕ) (k q : K) (v : V) (o : Option (Map K V)) → slice_get maps n ≡ o → IfSome o (IsReduced cmp eq) → k ≢ q → found_at cmp (changed cmp eq maps n k v o) n q ≡ found_at cmp maps n q
  other_key maps n k q v None e r apart = refl
  other_key maps n k q v (Some m) e r apart =
      ap (option_map (λ l. get cmp l q)) (get_set_same maps n m (set cmp eq m k v) e) ∙ ap Some (get-set_other x m r k q v apart) ∙ sym (ap (option_map (λ l. get cmp l q)) e)

  -- and nothing else changes
  elsewhere_by : (maps : List (Map K V)) (n g : ℕ) (k q : K) (v : V) → IfSome (slice_get maps n) (IsReduced cmp eq) → k ≢ q → (b : Bool) → Decides b (n ≡ g) → found_at cmp (changed_at cmp eq maps n k v) g q ≡ found_at cmp maps g q
  elsewhere_by maps n g k q v r apart true d =
      subst (λ i. found_at cmp (changed_at cmp eq maps n k v) i q ≡ found_at cmp maps i q) (d.0 refl) (other_key maps n k q v (slice_get maps n) refl r apart)
  elsewhere_by maps n g k q v r apart false d =
      other_map maps n g k q v (slice_get maps n) (λ e. true≢false (sym (d.1 e)))

  pub found_elsewhere : (maps : List (Map K V)) (n g : ℕ) (k q : K) (v : V) → IfSome (slice_get maps n) (IsReduced cmp eq) → (n ≢ g) ⊎ (k ≢ q) → found_at cmp (changed_at cmp eq maps n k v) g q ≡ found_at cmp maps g q
  found_elsewhere maps n g k q v r (inl apart) = other_map maps n g k q v (slice_get maps n) apart
  found_elsewhere maps n g k q v r (inr apart) = elsewhere_by maps n g k q v r apart (n == g) (Decides-eqb n g)
