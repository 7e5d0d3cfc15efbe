-- The laws of maps with a default.
use Rattle.std.proofs.Common.{◌≡◌, ◌≢◌, ℕ, zero, suc, slice_get, Bool, true, false, not, cond, List, [], ◌∷◌, refl, sym, ap, ◌∙◌, unwrap_or, All, Contains, IsSome, IfSome}
use Rattle.std.specs.List.{AllByRecursion, AllZip, list_all}
use Rattle.std.specs.List.Sorted.{IsStrictlySortedBy}
use Rattle.std.specs.Map.{keys_of, values_of, lookup, remove_entry}
use Rattle.std.specs.BTreeMap.{insert_entry, is_at}
use Rattle.std.specs.Cmp.{IsTotalOrder, IsEquivalence}
use Rattle.std.specs.Ordering.{is_eq, is_lt, eq_by_cmp, match_ordering}
use Rattle.std.specs.declared.cmp.Ordering.{Ordering}
use Rattle.std.specs.declared.cmp.Ordering.TheVariants.{Less, Equal, Greater}
use Rattle.std.specs.declared.option.Option.{Option}
use Rattle.std.specs.declared.option.Option.TheVariants.{Some, None}
use Rattle.std.proofs.lemmas.Cmp.{alike_right, tied_itself, eq_by_cmp_equiv}
use Rattle.std.proofs.lemmas.Map.{lookup-remove_entry, lookup-none}
use Rattle.std.proofs.lemmas.Map.Keys.{IsDistinct-from_sorted, sorted_tail}
use Rattle.std.proofs.lemmas.Map.Entries.{lookup_from_place, lookup_head, lookup_tail, none_past_head, none_below_head}
use Rattle.std.proofs.lemmas.Map.Views.{All-values-insert_entry, All-keys-insert_entry, All-map-remove_entry, IfSome-lookup_from_All, Contains-keys_from_lookup, IsSome-lookup_from_Contains}
use Rattle.std.proofs.lemmas.List.Elements.{All-nil, All-cons, All-head, All-tail}
use Rattle.std.proofs.lemmas.Bool.{true≢false, false_from_ne_true}
use Rattle.std.proofs.lemmas.Bool.Decides.{Decides-and, Decides-by_and}
use Rattle.std.specs.Bool.{Decides}
use Rattle.lemmas.proofs.Orders.{is_equal}
use Rattle.sparse.specs.Map.{Map, empty, keys, values, get, set, IsReduced, is_ascending, is_reduced, IsSame, ClonesAreEqual}
use Rattle.sparse.specs.Meaning.{IsExact}
use Rattle.sparse.specs.Tree.{put_entry}
use Rattle.sparse.proofs.Splits.{turned}

-- ---- the entries

module _ {K V : Type 0} (R : K → K → Ordering) (P : K → Type 0) where
  -- what holds of each key holds of each after an insertion
  keys-match : (k : K) (v : V) (e : K × V) (es rest : List (K × V)) (r : Ordering) → AllByRecursion P (keys_of (e ∷ es)) → P k → AllByRecursion P (keys_of rest) → AllByRecursion P (keys_of (match_ordering r ((k, v) ∷ e ∷ es) ((e.0, v) ∷ es) (e ∷ rest)))
  keys-match k v e es rest Less a p b = (p, a)
  keys-match k v e es rest Equal a p b = a
  keys-match k v e es rest Greater a p b = (a.0, b)

  keys-insert_entry : (k : K) (v : V) (es : List (K × V)) → AllByRecursion P (keys_of es) → P k → AllByRecursion P (keys_of (insert_entry R es k v))
  keys-insert_entry k v [] a p = (p, tt)
  keys-insert_entry k v (e ∷ es) a p = keys-match k v e es (insert_entry R es k v) (R k e.0) a p (keys-insert_entry k v es a.1 p)

module _ {K V : Type 0} (test : K → Bool) (P : K → Type 0) where
  keys-cond : (b : Bool) (e : K × V) (es rest : List (K × V)) → AllByRecursion P (keys_of (e ∷ es)) → AllByRecursion P (keys_of rest) → AllByRecursion P (keys_of (cond b es (e ∷ rest)))
  keys-cond true e es rest a b = a.1
  keys-cond false e es rest a b = (a.0, b)

  -- and after an entry is taken away
  keys-remove_entry : (es : List (K × V)) → AllByRecursion P (keys_of es) → AllByRecursion P (keys_of (remove_entry test es))
  keys-remove_entry [] a = tt
  keys-remove_entry (e ∷ es) a = keys-cond (test e.0) e es (remove_entry test es) a (keys-remove_entry es a.1)

module _ {K : Type 0} {R : K → K → Ordering} (o : IsTotalOrder R) where
  less_than_all : (k q : K) (ks : List K) → R k q ≡ Less → AllByRecursion (λ y. R q y ≡ Less) ks → AllByRecursion (λ y. R k y ≡ Less) ks
  less_than_all k q [] h a = tt
  less_than_all k q (x ∷ xs) h a = (o.trans k q x h a.0, less_than_all k q xs h a.1)

  sorted-match : {V : Type 0} (k : K) (v : V) (e : K × V) (es : List (K × V)) (r : Ordering) → R k e.0 ≡ r → IsStrictlySortedBy R (keys_of (e ∷ es)) → IsStrictlySortedBy R (keys_of (insert_entry R es k v)) → IsStrictlySortedBy R (keys_of (match_ordering r ((k, v) ∷ e ∷ es) ((e.0, v) ∷ es) (e ∷ insert_entry R es k v)))
  unfolding IsStrictlySortedBy
  sorted-match k v e es Less h s t = ((h, less_than_all k e.0 (keys_of es) h s.0), s)
  sorted-match k v e es Equal h s t = s
  sorted-match k v e es Greater h s t = (keys-insert_entry R (λ y. R e.0 y ≡ Less) k v es s.0 (turned o k e.0 Greater h), t)

  -- an insertion keeps the keys in order
  pub sorted-insert_entry : {V : Type 0} (k : K) (v : V) (es : List (K × V)) → IsStrictlySortedBy R (keys_of es) → IsStrictlySortedBy R (keys_of (insert_entry R es k v))
  unfolding IsStrictlySortedBy
  sorted-insert_entry k v [] s = (tt, tt)
  sorted-insert_entry k v (e ∷ es) s = sorted-match k v e es (R k e.0) refl s (sorted-insert_entry k v es s.1)

module _ {K V : Type 0} (R : K → K → Ordering) (test : K → Bool) where
  sorted-cond : (b : Bool) (e : K × V) (es : List (K × V)) → IsStrictlySortedBy R (keys_of (e ∷ es)) → IsStrictlySortedBy R (keys_of (remove_entry test es)) → IsStrictlySortedBy R (keys_of (cond b es (e ∷ remove_entry test es)))
  unfolding IsStrictlySortedBy
  sorted-cond true e es s t = s.1
  sorted-cond false e es s t = (keys-remove_entry test (λ y. R e.0 y ≡ Less) es s.0, t)

  -- and so does the removal of an entry
  pub sorted-remove_entry : (es : List (K × V)) → IsStrictlySortedBy R (keys_of es) → IsStrictlySortedBy R (keys_of (remove_entry test es))
  unfolding IsStrictlySortedBy
  sorted-remove_entry [] s = tt
  sorted-remove_entry (e ∷ es) s = sorted-cond (test e.0) e es s (sorted-remove_entry es s.1)

not_none : {X : Type 0} (x : X) → Some x ≡ None → ⊥
not_none x e = cc

-- ---- a look-up after an insertion

module _ {X : Type 0} where
  cond-same : (b c : Bool) (x y z : X) → b ≡ c → cond c x z ≡ cond b x (cond c y z)
  cond-same true true x y z e = refl
  cond-same false false x y z e = refl
  cond-same true false x y z e = absurd (true≢false e)
  cond-same false true x y z e = absurd (true≢false (sym e))

  cond-swap : (b c : Bool) (x y z : X) → (b ≡ true → c ≡ true → ⊥) → cond c y (cond b x z) ≡ cond b x (cond c y z)
  cond-swap true true x y z apart = absurd (apart refl refl)
  cond-swap true false x y z apart = refl
  cond-swap false c x y z apart = refl

  unwrap_or-cond : (b : Bool) (s t : Option X) (z : X) → unwrap_or (cond b s t) z ≡ cond b (unwrap_or s z) (unwrap_or t z)
  unwrap_or-cond true s t z = refl
  unwrap_or-cond false s t z = refl

module _ {K V : Type 0} {R : K → K → Ordering} (o : IsTotalOrder R) (k q : K) (v : V) where
  lookup-match : (e : K × V) (es : List (K × V)) (r : Ordering) → R k e.0 ≡ r → lookup (is_at (R q)) (insert_entry R es k v) ≡ cond (is_at (R q) k) (Some v) (lookup (is_at (R q)) es) → lookup (is_at (R q)) (match_ordering r ((k, v) ∷ e ∷ es) ((e.0, v) ∷ es) (e ∷ insert_entry R es k v)) ≡ cond (is_at (R q) k) (Some v) (lookup (is_at (R q)) (e ∷ es))
  lookup-match e es Less h ih = refl
  lookup-match e es Equal h ih = cond-same (is_eq (R q k)) (is_eq (R q e.0)) (Some v) (Some e.1) (lookup (is_at (R q)) es) (ap is_eq (alike_right o k e.0 q h))
  lookup-match e es Greater h ih =
      let apart : is_eq (R q k) ≡ true → is_eq (R q e.0) ≡ true → ⊥ = λ a b.
      let tied : R k e.0 ≡ Equal = sym (o.congr q k e.0 (is_equal (R q k) a)) ∙ is_equal (R q e.0) b in cc in
      ap (λ t. cond (is_eq (R q e.0)) (Some e.1) t) ih ∙ cond-swap (is_eq (R q k)) (is_eq (R q e.0)) (Some v) (Some e.1) (lookup (is_at (R q)) es) apart

  pub lookup-insert_entry : (es : List (K × V)) → lookup (is_at (R q)) (insert_entry R es k v) ≡ cond (is_at (R q) k) (Some v) (lookup (is_at (R q)) es)
  lookup-insert_entry [] = refl
  lookup-insert_entry (e ∷ es) = lookup-match e es (R k e.0) refl (lookup-insert_entry es)

-- a key at an index has an entry there
entry_of_key : {K V : Type 0} (es : List (K × V)) (i : ℕ) (k : K) → slice_get (keys_of es) i ≡ Some k → (v : V) × (slice_get es i ≡ Some (k, v))
entry_of_key [] i k h = absurd (not_none k (sym h))
entry_of_key (e ∷ es) zero k h =
    let same : e.0 ≡ k = cc in
    (e.1, λ j. Some (same j, e.1))
entry_of_key (e ∷ es) (suc i) k h = entry_of_key es i k h

-- ---- maps

-- the value that `set` gives: the default itself for one that is equal to it
abbrev pub given : {V : Type 0} → (V → V → Bool) → V → V → V
given eq z v = cond (eq v z) z v

module _ {K V : Type 0} {cmp : K → K → Ordering} (o : IsTotalOrder cmp) {eq : V → V → Bool} where
  -- the map in which every key has the default is reduced
  pub IsReduced-empty : (z : V) → IsReduced cmp eq (empty {K = K} z)
  unfolding IsStrictlySortedBy
  IsReduced-empty z = record { ascending = tt; no_default = All-nil (λ v. eq v z ≡ false) }

  module _ (m : Map K V) (r : IsReduced cmp eq m) (k : K) (v : V) where
    ascending-set : (b : Bool) → IsStrictlySortedBy cmp (keys_of (cond b (remove_entry (is_at (cmp k)) m.entries) (insert_entry cmp m.entries k v)))
    ascending-set true = sorted-remove_entry cmp (is_at (cmp k)) m.entries r.ascending
    ascending-set false = sorted-insert_entry o k v m.entries r.ascending

    no_default-set : (b : Bool) → eq v m.default ≡ b → All (λ w. eq w m.default ≡ false) (values_of (cond b (remove_entry (is_at (cmp k)) m.entries) (insert_entry cmp m.entries k v)))
    no_default-set true e = All-map-remove_entry (is_at (cmp k)) (λ e. e.1) (λ w. eq w m.default ≡ false) m.entries r.no_default
    no_default-set false e = All-values-insert_entry cmp k v (λ w. eq w m.default ≡ false) m.entries r.no_default e

    -- a map stays reduced
    pub IsReduced-set : IsReduced cmp eq (set cmp eq m k v)
    IsReduced-set = record { ascending = ascending-set (eq v m.default); no_default = no_default-set (eq v m.default) refl }

    lookup-set : (q : K) (b : Bool) → unwrap_or (lookup (is_at (cmp q)) (cond b (remove_entry (is_at (cmp k)) m.entries) (insert_entry cmp m.entries k v))) m.default ≡ cond (is_at (cmp q) k) (cond b m.default v) (get cmp m q)
    lookup-set q true =
        let laws : IsEquivalence (eq_by_cmp cmp) = eq_by_cmp_equiv o in
        let after : lookup (eq_by_cmp cmp q) (remove_entry (eq_by_cmp cmp k) m.entries) ≡ cond (eq_by_cmp cmp k q) None (lookup (eq_by_cmp cmp q) m.entries) = lookup-remove_entry laws (eq_by_cmp cmp k) (λ x y h. laws.congr k x y h) q m.entries (IsDistinct-from_sorted cmp (keys m) r.ascending) in
        ap (λ t. unwrap_or t m.default) (after ∙ ap (λ b. cond b None (lookup (eq_by_cmp cmp q) m.entries)) (laws.symm k q)) ∙ unwrap_or-cond (eq_by_cmp cmp q k) None (lookup (eq_by_cmp cmp q) m.entries) m.default
    lookup-set q false =
        ap (λ t. unwrap_or t m.default) (lookup-insert_entry o k q v m.entries) ∙ unwrap_or-cond (is_at (cmp q) k) (Some v) (lookup (is_at (cmp q)) m.entries) m.default

    -- the values after a change: the new one at the key, and elsewhere those from before
    pub get-set : (q : K) → get cmp (set cmp eq m k v) q ≡ cond (is_at (cmp q) k) (given eq m.default v) (get cmp m q)
    get-set q = lookup-set q (eq v m.default)

    pub set-taken : eq v m.default ≡ true → set cmp eq m k v ≡ record { default = m.default; entries = remove_entry (is_at (cmp k)) m.entries }
    set-taken e = rw e refl

    pub set-put : eq v m.default ≡ false → set cmp eq m k v ≡ record { default = m.default; entries = insert_entry cmp m.entries k v }
    set-put e = rw e refl

    pub IsReduced-taken : eq v m.default ≡ true → IsReduced cmp eq (record { default = m.default; entries = remove_entry (is_at (cmp k)) m.entries })
    IsReduced-taken e = rw (← set-taken e) IsReduced-set

    pub IsReduced-put : eq v m.default ≡ false → IsReduced cmp eq (record { default = m.default; entries = insert_entry cmp m.entries k v })
    IsReduced-put e = rw (← set-put e) IsReduced-set

  -- at the index of a key stands its entry, the key with its value
  pub get-keys : (m : Map K V) → IsReduced cmp eq m → (i : ℕ) (k : K) → slice_get (keys m) i ≡ Some k → slice_get m.entries i ≡ Some (k, get cmp m k)
  get-keys m r i k h =
      let entry : (v : V) × (slice_get m.entries i ≡ Some (k, v)) = entry_of_key m.entries i k h in
      let found : lookup (eq_by_cmp cmp k) m.entries ≡ Some entry.0 = lookup_from_place (eq_by_cmp_equiv o) m.entries i k entry.0 (IsDistinct-from_sorted cmp (keys m) r.ascending) entry.1 in
      entry.1 ∙ ap (λ v. Some (k, v)) (sym (ap (λ t. unwrap_or t m.default) found))

-- ---- what holds of each key and value

module _ {K V : Type 0} (cmp : K → K → Ordering) where
  value_or : (P : V → Type 0) (o : Option V) (z : V) → IfSome o P → P z → P (unwrap_or o z)
  value_or P None z p q = q
  value_or P (Some v) z p q = p

  -- what holds of the default and of each other value holds of the value at each key
  pub get-All : (P : V → Type 0) (m : Map K V) (k : K) → P m.default → All P (values m) → P (get cmp m k)
  get-All P m k z h = value_or P (lookup (is_at (cmp k)) m.entries) m.default (IfSome-lookup_from_All P (is_at (cmp k)) m.entries h) z

  module _ (eq : V → V → Bool) (m : Map K V) (k : K) (v : V) where
    All-values-by : (P : V → Type 0) (b : Bool) → All P (values m) → P v → All P (values_of (cond b (remove_entry (is_at (cmp k)) m.entries) (insert_entry cmp m.entries k v)))
    All-values-by P true h p = All-map-remove_entry (is_at (cmp k)) (λ e. e.1) P m.entries h
    All-values-by P false h p = All-values-insert_entry cmp k v P m.entries h p

    -- what holds of each value, or of each key, holds of each after a change to one of which it holds
    pub All-values-set : (P : V → Type 0) → All P (values m) → P v → All P (values (set cmp eq m k v))
    All-values-set P h p = All-values-by P (eq v m.default) h p

    All-keys-by : (P : K → Type 0) (b : Bool) → All P (keys m) → P k → All P (keys_of (cond b (remove_entry (is_at (cmp k)) m.entries) (insert_entry cmp m.entries k v)))
    All-keys-by P true h p = All-map-remove_entry (is_at (cmp k)) (λ e. e.0) P m.entries h
    All-keys-by P false h p = All-keys-insert_entry cmp k v P m.entries h p

    pub All-keys-set : (P : K → Type 0) → All P (keys m) → P k → All P (keys (set cmp eq m k v))
    All-keys-set P h p = All-keys-by P (eq v m.default) h p

-- ---- maps that are the same

module _ {K V : Type 0} {cmp : K → K → Ordering} (o : IsTotalOrder cmp) {eq : V → V → Bool} (equiv : IsEquivalence eq) where
  alike : (es : List (K × V)) → AllZip (λ p q. (cmp p.0 q.0 ≡ Equal) × (eq p.1 q.1 ≡ true)) es es
  alike [] = tt
  alike (e ∷ es) = ((tied_itself o e.0, equiv.refl e.1), alike es)

  pub IsSame-refl : (m : Map K V) → IsSame cmp eq m m
  IsSame-refl m = record { default = equiv.refl m.default; entries = alike m.entries }

  pub IsSame-equal : (m n : Map K V) → m ≡ n → IsSame cmp eq m n
  IsSame-equal m n e = rw e (IsSame-refl n)

  module _ (k : K) (v : V) where
    put-match : (e : K × V) (es fs gs : List (K × V)) (r : Ordering) → cmp k e.0 ≡ r → AllZip (λ p q. (cmp p.0 q.0 ≡ Equal) × (eq p.1 q.1 ≡ true)) fs gs → AllZip (λ p q. (cmp p.0 q.0 ≡ Equal) × (eq p.1 q.1 ≡ true)) (match_ordering r ((k, v) ∷ e ∷ es) ((e.0, v) ∷ es) (e ∷ fs)) (match_ordering r ((k, v) ∷ e ∷ es) ((k, v) ∷ es) (e ∷ gs))
    put-match e es fs gs Less h a = alike ((k, v) ∷ e ∷ es)
    put-match e es fs gs Equal h a = ((turned o k e.0 Equal h, equiv.refl v), alike es)
    put-match e es fs gs Greater h a = ((tied_itself o e.0, equiv.refl e.1), a)

    put-alike : (es : List (K × V)) → AllZip (λ p q. (cmp p.0 q.0 ≡ Equal) × (eq p.1 q.1 ≡ true)) (insert_entry cmp es k v) (put_entry cmp es (k, v))
    put-alike [] = alike ((k, v) ∷ [])
    put-alike (e ∷ es) = put-match e es (insert_entry cmp es k v) (put_entry cmp es (k, v)) (cmp k e.0) refl (put-alike es)

  -- a clone of the default makes the same map
  pub IsSame-default : {kc : K → K → Type 0} {vc : V → V → Type 0} (c : ClonesAreEqual cmp eq kc vc) {z w : V} (es : List (K × V)) → vc z w → IsSame cmp eq (record { default = z; entries = es }) (record { default = w; entries = es })
  IsSame-default c {z} {w} es h = record { default = c.values z w h; entries = alike es }

  below-alike : (k q : K) (es fs : List (K × V)) → cmp k q ≡ Equal → AllZip (λ p q. (cmp p.0 q.0 ≡ Equal) × (eq p.1 q.1 ≡ true)) es fs → AllByRecursion (λ y. cmp k y ≡ Less) (keys_of es) → AllByRecursion (λ y. cmp q y ≡ Less) (keys_of fs)
  below-alike k q [] [] t a b = tt
  below-alike k q [] (f ∷ fs) t a b = absurd a
  below-alike k q (e ∷ es) [] t a b = tt
  below-alike k q (e ∷ es) (f ∷ fs) t a b =
      (sym (o.congr k q f.0 t) ∙ sym (alike_right o e.0 f.0 k a.0.0) ∙ b.0, below-alike k q es fs t a.1 b.1)

  ascending-alike : (es fs : List (K × V)) → AllZip (λ p q. (cmp p.0 q.0 ≡ Equal) × (eq p.1 q.1 ≡ true)) es fs → IsStrictlySortedBy cmp (keys_of es) → IsStrictlySortedBy cmp (keys_of fs)
  unfolding IsStrictlySortedBy
  ascending-alike [] [] a s = tt
  ascending-alike [] (f ∷ fs) a s = absurd a
  ascending-alike (e ∷ es) [] a s = tt
  ascending-alike (e ∷ es) (f ∷ fs) a s = (below-alike e.0 f.0 es fs a.0.0 a.1 s.0, ascending-alike es fs a.1 s.1)

  no_default-alike : (y z : V) (es fs : List (K × V)) → eq y z ≡ true → AllZip (λ p q. (cmp p.0 q.0 ≡ Equal) × (eq p.1 q.1 ≡ true)) es fs → All (λ v. eq v y ≡ false) (values_of es) → All (λ v. eq v z ≡ false) (values_of fs)
  no_default-alike y z [] [] t a b = All-nil (λ v. eq v z ≡ false)
  no_default-alike y z [] (f ∷ fs) t a b = absurd a
  no_default-alike y z (e ∷ es) [] t a b = All-nil (λ v. eq v z ≡ false)
  no_default-alike y z (e ∷ es) (f ∷ fs) t a b =
      let here : eq f.1 z ≡ false = sym (equiv.congr e.1 f.1 z a.0.1) ∙ equiv.symm e.1 z ∙ sym (equiv.congr y z e.1 t) ∙ equiv.symm y e.1 ∙ All-head (λ v. eq v y ≡ false) e.1 (values_of es) b in
      All-cons (λ v. eq v z ≡ false) f.1 (values_of fs) here (no_default-alike y z es fs t a.1 (All-tail (λ v. eq v y ≡ false) e.1 (values_of es) b))

  pub IsReduced-IsSame : (m n : Map K V) → IsSame cmp eq m n → IsReduced cmp eq m → IsReduced cmp eq n
  IsReduced-IsSame m n a r = record {
    ascending = ascending-alike m.entries n.entries a.entries r.ascending;
    no_default = no_default-alike m.default n.default m.entries n.entries a.default a.entries r.no_default;
  }

  -- the entries of a map after a change: an entry that is put there takes its key along
  module _ (z : V) (es fs : List (K × V)) (k : K) (v : V) where
    pub taken-is_set : eq v z ≡ true → fs ≡ remove_entry (is_at (cmp k)) es → IsSame cmp eq (set cmp eq (record { default = z; entries = es }) k v) (record { default = z; entries = fs })
    taken-is_set e h = rw (e, h) (IsSame-refl (record { default = z; entries = remove_entry (is_at (cmp k)) es }))

    pub put-is_set : eq v z ≡ false → fs ≡ put_entry cmp es (k, v) → IsSame cmp eq (set cmp eq (record { default = z; entries = es }) k v) (record { default = z; entries = fs })
    put-is_set e h = rw (e, h) (record { default = equiv.refl z; entries = put-alike k v es })

    pub IsReduced-is_set : IsReduced cmp eq (record { default = z; entries = es }) → IsSame cmp eq (set cmp eq (record { default = z; entries = es }) k v) (record { default = z; entries = fs }) → IsReduced cmp eq (record { default = z; entries = fs })
    IsReduced-is_set r a = IsReduced-IsSame (set cmp eq (record { default = z; entries = es }) k v) (record { default = z; entries = fs }) a (IsReduced-set o (record { default = z; entries = es }) r k v)

-- ---- entries with equal look-ups

module _ {K V : Type 0} {R : K → K → Ordering} (o : IsTotalOrder R) where
  abbrev find : List (K × V) → K → Option V
  find es q = lookup (is_at (R q)) es

  find-head : (e : K × V) (es : List (K × V)) → find (e ∷ es) e.0 ≡ Some e.1
  find-head e es = lookup_head (is_at (R e.0)) e es (ap is_eq (tied_itself o e.0))

  find-past : (q : K) (e : K × V) (es : List (K × V)) → IsStrictlySortedBy R (keys_of (e ∷ es)) → eq_by_cmp R q e.0 ≡ true → find es q ≡ None
  find-past q e es s t = lookup-none (is_at (R q)) es (none_past_head (eq_by_cmp_equiv o) q e es (IsDistinct-from_sorted R (keys_of (e ∷ es)) s) t)

  module _ (e f : K × V) (es fs : List (K × V)) (s : IsStrictlySortedBy R (keys_of (e ∷ es))) (t : IsStrictlySortedBy R (keys_of (f ∷ fs))) (h : (q : K) → find (e ∷ es) q ≡ find (f ∷ fs) q) where
    first_keys_by : (r : Ordering) → R e.0 f.0 ≡ r → R e.0 f.0 ≡ Equal
    first_keys_by Less p = absurd (not_none e.1 (sym (find-head e es) ∙ h e.0 ∙ lookup-none (is_at (R e.0)) (f ∷ fs) (none_below_head o e.0 f fs t p)))
    first_keys_by Equal p = p
    first_keys_by Greater p = absurd (not_none f.1 (sym (find-head f fs) ∙ sym (h f.0) ∙ lookup-none (is_at (R f.0)) (e ∷ es) (none_below_head o f.0 e es s (turned o e.0 f.0 Greater p))))

    first_keys : R e.0 f.0 ≡ Equal
    first_keys = first_keys_by (R e.0 f.0) refl

    first_values : e.1 ≡ f.1
    first_values = ap (λ u. unwrap_or u e.1) (sym (find-head e es) ∙ h e.0 ∙ lookup_head (is_at (R e.0)) f fs (ap is_eq first_keys))

    rest-by : (q : K) (b : Bool) → eq_by_cmp R q e.0 ≡ b → eq_by_cmp R q f.0 ≡ b → find es q ≡ find fs q
    rest-by q true a b = find-past q e es s a ∙ sym (find-past q f fs t b)
    rest-by q false a b = sym (lookup_tail (is_at (R q)) e es a) ∙ h q ∙ lookup_tail (is_at (R q)) f fs b

    rests : (q : K) → find es q ≡ find fs q
    rests q = rest-by q (eq_by_cmp R q e.0) refl (sym (ap is_eq (alike_right o e.0 f.0 q first_keys)))

  -- where the keys ascend and the order tells all keys apart, the look-ups determine the entries
  entries_from_find : ((k q : K) → R k q ≡ Equal → k ≡ q) → (es fs : List (K × V)) → IsStrictlySortedBy R (keys_of es) → IsStrictlySortedBy R (keys_of fs) → ((q : K) → find es q ≡ find fs q) → es ≡ fs
  entries_from_find exact [] [] s t h = refl
  entries_from_find exact [] (f ∷ fs) s t h = absurd (not_none f.1 (sym (h f.0 ∙ find-head f fs)))
  entries_from_find exact (e ∷ es) [] s t h = absurd (not_none e.1 (sym (find-head e es) ∙ h e.0))
  entries_from_find exact (e ∷ es) (f ∷ fs) s t h =
      let k : e.0 ≡ f.0 = exact e.0 f.0 (first_keys e f es fs s t h) in
      let v : e.1 ≡ f.1 = first_values e f es fs s t h in
      let rest : es ≡ fs = entries_from_find exact es fs (sorted_tail R e.0 (keys_of es) s) (sorted_tail R f.0 (keys_of fs) t) (rests e f es fs s t h) in
      λ i. (k i, v i) ∷ rest i

-- ---- maps whose keys and values are told apart exactly

module _ {K V : Type 0} {cmp : K → K → Ordering} {eq : V → V → Bool} (x : IsExact cmp eq) where
  -- the same maps are equal
  entries-alike : (es fs : List (K × V)) → AllZip (λ p q. (cmp p.0 q.0 ≡ Equal) × (eq p.1 q.1 ≡ true)) es fs → es ≡ fs
  entries-alike [] [] a = refl
  entries-alike [] (f ∷ fs) a = absurd a
  entries-alike (e ∷ es) [] a = absurd a
  entries-alike (e ∷ es) (f ∷ fs) a =
      let k : e.0 ≡ f.0 = x.keys e.0 f.0 a.0.0 in
      let v : e.1 ≡ f.1 = (x.values e.1 f.1).0 a.0.1 in
      let rest : es ≡ fs = entries-alike es fs a.1 in
      λ i. (k i, v i) ∷ rest i

  pub map_from_same : (m n : Map K V) → IsSame cmp eq m n → m ≡ n
  map_from_same m n a =
      let z : m.default ≡ n.default = (x.values m.default n.default).0 a.default in
      let es : m.entries ≡ n.entries = entries-alike m.entries n.entries a.entries in
      λ i. record { default = z i; entries = es i }

  -- the value that `set` gives is the one that it was given
  pub given-is : (z v : V) (b : Bool) → eq v z ≡ b → cond b z v ≡ v
  given-is z v true e = sym ((x.values v z).0 e)
  given-is z v false e = refl

  apart : (k q : K) → k ≢ q → is_at (cmp q) k ≡ false
  apart k q n = false_from_ne_true (is_eq (cmp q k)) (λ e. n (sym (x.keys q k (is_equal (cmp q k) e))))

  module _ (m : Map K V) (r : IsReduced cmp eq m) where
    -- after a change the key has the new value
    pub get-set_same : (k : K) (v : V) → get cmp (set cmp eq m k v) k ≡ v
    get-set_same k v =
        get-set x.total m r k v k ∙ rw (tied_itself x.total k) (given-is m.default v (eq v m.default) refl)

    -- and any other key the value from before
    pub get-set_other : (k q : K) (v : V) → k ≢ q → get cmp (set cmp eq m k v) q ≡ get cmp m q
    get-set_other k q v n = get-set x.total m r k v q ∙ rw (apart k q n) refl

  no_default-lookup : (m : Map K V) → IsReduced cmp eq m → (q : K) → IfSome (lookup (is_at (cmp q)) m.entries) (λ v. eq v m.default ≡ false)
  no_default-lookup m r q = IfSome-lookup_from_All (λ v. eq v m.default ≡ false) (is_at (cmp q)) m.entries r.no_default

  same-lookup : (z : V) (s t : Option V) → IfSome s (λ v. eq v z ≡ false) → IfSome t (λ v. eq v z ≡ false) → unwrap_or s z ≡ unwrap_or t z → s ≡ t
  same-lookup z None None p q e = refl
  same-lookup z None (Some w) p q e = absurd (true≢false (sym ((x.values w z).1 (sym e)) ∙ q))
  same-lookup z (Some v) None p q e = absurd (true≢false (sym ((x.values v z).1 e) ∙ p))
  same-lookup z (Some v) (Some w) p q e = ap Some e

  -- two maps with the same default that agree at every key are equal
  pub map_from_get : (m n : Map K V) → IsReduced cmp eq m → IsReduced cmp eq n → m.default ≡ n.default → ((q : K) → get cmp m q ≡ get cmp n q) → m ≡ n
  map_from_get m n r s z h =
      let found : (q : K) → lookup (is_at (cmp q)) m.entries ≡ lookup (is_at (cmp q)) n.entries = λ q.
      same-lookup m.default (lookup (is_at (cmp q)) m.entries) (lookup (is_at (cmp q)) n.entries) (no_default-lookup m r q) (rw z (no_default-lookup n s q)) (h q ∙ rw z refl) in
      let es : m.entries ≡ n.entries = entries_from_find x.total x.keys m.entries n.entries r.ascending s.ascending found in
      λ i. record { default = z i; entries = es i }

  reduced_by : (m : Map K V) (r : IsReduced cmp eq m) (k : K) (v : V) → IsReduced cmp eq (set cmp eq m k v)
  reduced_by = IsReduced-set x.total

  -- the values after a change, where the keys are told apart: the new one at the key, and elsewhere those from before
  pub get-set_is : (m : Map K V) (r : IsReduced cmp eq m) (k q : K) (v : V) → get cmp (set cmp eq m k v) q ≡ cond (is_at (cmp q) k) v (get cmp m q)
  get-set_is m r k q v = get-set x.total m r k v q ∙ ap (λ w. cond (is_at (cmp q) k) w (get cmp m q)) (given-is m.default v (eq v m.default) refl)

  cond-twice : (b : Bool) (w v y : V) → cond b w (cond b v y) ≡ cond b w y
  cond-twice true w v y = refl
  cond-twice false w v y = refl

  module _ (m : Map K V) (r : IsReduced cmp eq m) where
    -- of two changes at one key the second counts
    pub set-set_same : (k : K) (v w : V) → set cmp eq (set cmp eq m k v) k w ≡ set cmp eq m k w
    set-set_same k v w = map_from_get (set cmp eq (set cmp eq m k v) k w) (set cmp eq m k w) (reduced_by (set cmp eq m k v) (reduced_by m r k v) k w) (reduced_by m r k w) refl (λ q.
        get-set_is (set cmp eq m k v) (reduced_by m r k v) k q w
        ∙ ap (λ y. cond (is_at (cmp q) k) w y) (get-set_is m r k q v)
        ∙ cond-twice (is_at (cmp q) k) w v (get cmp m q)
        ∙ sym (get-set_is m r k q w))

    -- changes at different keys may come in either order
    pub set-set_other : (k l : K) (v w : V) → k ≢ l → set cmp eq (set cmp eq m k v) l w ≡ set cmp eq (set cmp eq m l w) k v
    set-set_other k l v w n = map_from_get (set cmp eq (set cmp eq m k v) l w) (set cmp eq (set cmp eq m l w) k v) (reduced_by (set cmp eq m k v) (reduced_by m r k v) l w) (reduced_by (set cmp eq m l w) (reduced_by m r l w) k v) refl (λ q.
        get-set_is (set cmp eq m k v) (reduced_by m r k v) l q w
        ∙ ap (λ y. cond (is_at (cmp q) l) w y) (get-set_is m r k q v)
        ∙ cond-swap (is_at (cmp q) k) (is_at (cmp q) l) v w (get cmp m q) (λ a b. n (sym (x.keys q k (is_equal (cmp q k) a)) ∙ x.keys q l (is_equal (cmp q l) b)))
        ∙ ap (λ y. cond (is_at (cmp q) k) v y) (sym (get-set_is m r l q w))
        ∙ sym (get-set_is (set cmp eq m l w) (reduced_by m r l w) k q v))

    kept-by : (k q : K) (b : Bool) → is_at (cmp q) k ≡ b → cond b (get cmp m k) (get cmp m q) ≡ get cmp m q
    kept-by k q true e = ap (λ p. get cmp m p) (sym (x.keys q k (is_equal (cmp q k) e)))
    kept-by k q false e = refl

    -- a key that is given the value it has changes nothing
    pub set-get : (k : K) → set cmp eq m k (get cmp m k) ≡ m
    set-get k = map_from_get (set cmp eq m k (get cmp m k)) m (reduced_by m r k (get cmp m k)) r refl (λ q.
        get-set_is m r k q (get cmp m k) ∙ kept-by k q (is_at (cmp q) k) refl)

    equal_at : (q k : K) → eq_by_cmp cmp q k ≡ true → q ≡ k
    equal_at q k e = x.keys q k (is_equal (cmp q k) e)

    some_by : (s : Option V) → unwrap_or s m.default ≢ m.default → IsSome s
    some_by None n = absurd (n refl)
    some_by (Some v) n = refl

    other_by : (s : Option V) → IsSome s → IfSome s (λ v. eq v m.default ≡ false) → unwrap_or s m.default ≡ m.default → ⊥
    other_by None some f e = true≢false (sym some)
    other_by (Some v) some f e = true≢false (sym ((x.values v m.default).1 e) ∙ f)

    -- a key with another value than the default is among the keys
    pub Contains-keys : (k : K) → get cmp m k ≢ m.default → Contains (keys m) k
    Contains-keys k n = Contains-keys_from_lookup equal_at k m.entries (some_by (lookup (is_at (cmp k)) m.entries) n)

    -- and no other key is
    pub get-key : (k : K) → Contains (keys m) k → get cmp m k ≢ m.default
    get-key k c e =
        let some : IsSome (lookup (is_at (cmp k)) m.entries) = IsSome-lookup_from_Contains (eq_by_cmp_equiv x.total) k m.entries c in
        other_by (lookup (is_at (cmp k)) m.entries) some (no_default-lookup m r k) e

  -- the default leaves no entry
  pub set-default : (m : Map K V) → IsReduced cmp eq m → (k : K) → Contains (keys (set cmp eq m k m.default)) k → ⊥
  set-default m r k c = get-key (set cmp eq m k m.default) (reduced_by m r k m.default) k c (get-set_same m r k m.default)

-- ---- the test of a reduced map

Decides-less : (r : Ordering) → Decides (is_lt r) (r ≡ Less)
Decides-less Less = (λ e. refl, λ e. refl)
Decides-less Equal = (λ e. cc, λ e. cc)
Decides-less Greater = (λ e. cc, λ e. cc)

Decides-false : (b : Bool) → Decides (not b) (b ≡ false)
Decides-false true = (λ e. cc, λ e. cc)
Decides-false false = (λ e. refl, λ e. refl)

pub Decides-list_all : {X : Type 0} (test : X → Bool) (P : X → Type 0) → ((x : X) → Decides (test x) (P x)) → (xs : List X) → Decides (list_all test xs) (All P xs)
Decides-list_all test P each xs = Decides-by_and test P (list_all test) each refl (λ x ys. refl) xs

module _ {K V : Type 0} (cmp : K → K → Ordering) (eq : V → V → Bool) where
  all_below : (k : K) (ks : List K) → Decides (list_all (λ q. is_lt (cmp k q)) ks) (AllByRecursion (λ q. cmp k q ≡ Less) ks)
  all_below k [] = (λ e. tt, λ h. refl)
  all_below k (q ∷ ks) = Decides-and (is_lt (cmp k q)) (list_all (λ q. is_lt (cmp k q)) ks) (Decides-less (cmp k q)) (all_below k ks)

  Decides-is_ascending : (ks : List K) → Decides (is_ascending cmp ks) (IsStrictlySortedBy cmp ks)
  unfolding IsStrictlySortedBy
  Decides-is_ascending [] = (λ e. tt, λ h. refl)
  Decides-is_ascending (k ∷ ks) = Decides-and (list_all (λ q. is_lt (cmp k q)) ks) (is_ascending cmp ks) (all_below k ks) (Decides-is_ascending ks)

  pub Decides-is_reduced : (m : Map K V) → Decides (is_reduced cmp eq m) (IsReduced cmp eq m)
  Decides-is_reduced m =
      let d = Decides-and (is_ascending cmp (keys m)) (list_all (λ v. not (eq v m.default)) (values m)) (Decides-is_ascending (keys m)) (Decides-list_all (λ v. not (eq v m.default)) (λ v. eq v m.default ≡ false) (λ v. Decides-false (eq v m.default)) (values m)) in
      (λ e. record { ascending = (d.0 e).0; no_default = (d.0 e).1 }, λ r. d.1 (r.ascending, r.no_default))
