-- What came loose stays among the keys that are noted.
use Rattle.std.proofs.Common.{◌≡◌, ◌⊎◌, inl, inr, ℕ, zero, suc, ◌+◌, ◌<◌, ◌≤◌, arith, Bool, true, false, not, ◌||◌, cond, Bor, length, take, get_or, List, [], ◌∷◌, ◌++◌, Option, Some, None, Result, Ok, Err, IfOk, OnOk, OnErr, slice_get, slice_set, unwrap_or, refl, sym, ap, ◌∙◌, subst}
use Rattle.std.specs.List.{AllZip}
use Rattle.std.specs.BTreeMap.{insert_entry, is_at}
use Rattle.std.specs.Map.{keys_of, lookup, remove_entry}
use Rattle.std.specs.Ordering.{is_eq, match_ordering}
use Rattle.std.specs.declared.alloc.Global.{Global}
use Rattle.std.specs.declared.cmp.Ordering.{Ordering}
use Rattle.std.specs.declared.cmp.Ordering.TheVariants.{Less, Equal, Greater}
use Rattle.std.specs.declared.vec.Vec.{Vec}
use Rattle.std.specs.Cmp.{IsTotalOrder}
use Rattle.std.proofs.lemmas.Bool.{true≢false}
use Rattle.std.proofs.lemmas.List.{map-append, map-set, take_more}
use Rattle.std.proofs.lemmas.List.Folds.{list_any-append}
use Rattle.std.proofs.lemmas.Option.{slice_get-map}
use Rattle.std.specs.Option.{option_map}
use Rattle.lemmas.proofs.Orders.{is_equal}
use Rattle.sparse.specs.Map.{Map, borrowed, get, set, keys, IsSame}
use Rattle.vb_value.specs.Fraction.{Fraction}
use Rattle.vb_value.specs.Value.{fraction_eq}
use Rattle.viper_state.specs.Loose.{is_listed, lists_of, AreListed, AreLooseAmong, AreKept, IsNoted}
use Rattle.viper_state.specs.State.{changed, changed_at}
use Rattle.viper_state.proofs.Paired.{paired, paired_back}

-- ---- tests

or_either : (a b : Bool) → (a || b) ≡ true → (a ≡ true) ⊎ (b ≡ true)
or_either true b h = inl refl
or_either false b h = inr h

or_left : (a b : Bool) → a ≡ true → (a || b) ≡ true
or_left true b h = refl
or_left false b h = absurd (true≢false (sym h))

or_right : (a b : Bool) → b ≡ true → (a || b) ≡ true
or_right true b h = refl
or_right false b h = h

-- ---- lists of which one is changed

set_found : {X : Type 0} (xs : List X) (n m : ℕ) (x y : X) → slice_get (slice_set xs n x) m ≡ Some y → ((m ≡ n) × (y ≡ x)) ⊎ (slice_get xs m ≡ Some y)
set_found [] n m x y h = inr h
set_found (z ∷ xs) zero zero x y h = inl (refl, cc)
set_found (z ∷ xs) zero (suc m) x y h = inr h
set_found (z ∷ xs) (suc n) zero x y h = inr h
set_found (z ∷ xs) (suc n) (suc m) x y h = elim (set_found xs n m x y h) [ inl s ↦ inl (ap suc s.0, s.1) | inr t ↦ inr t ]

set_at : {X : Type 0} (xs : List X) (n : ℕ) (x y old : X) → slice_get xs n ≡ Some old → slice_get (slice_set xs n x) n ≡ Some y → y ≡ x
set_at [] n x y old there h = absurd (cc)
set_at (z ∷ xs) zero x y old there h = cc
set_at (z ∷ xs) (suc n) x y old there h = set_at xs n x y old there h

module _ {K : Type 0} (cmp : K → K → Ordering) where
  pub kept_same : (lists : List (List K)) → AreKept cmp lists lists
  kept_same lists = λ n list there. (list, there, λ k h. h)

  pub kept_set : (lists : List (List K)) (n : ℕ) (old new : List K) → slice_get lists n ≡ Some old → ((k : K) → is_listed cmp old k ≡ true → is_listed cmp new k ≡ true) → AreKept cmp lists (slice_set lists n new)
  kept_set lists n old new there more = λ m list h. elim (set_found lists n m new list h) [
    | inl s ↦ (old, ap (slice_get lists) s.0 ∙ there, λ k e. subst (λ ks. is_listed cmp ks k ≡ true) (sym s.1) (more k e))
    | inr t ↦ (list, t, λ k e. e)
  ]

  pub noted_set : (lists : List (List K)) (n : ℕ) (old new : List K) (k : K) → slice_get lists n ≡ Some old → is_listed cmp new k ≡ true → IsNoted cmp (slice_set lists n new) n k
  noted_set lists n old new k there h = λ list at. subst (λ ks. is_listed cmp ks k ≡ true) (sym (set_at lists n new list old there at)) h

  pub not_noted : (lists : List (List K)) (n : ℕ) (k : K) → slice_get lists n ≡ None → IsNoted cmp lists n k
  not_noted lists n k none = λ list at. absurd (none_some (sym none ∙ at))
    where
      none_some : {X : Type 0} {x : X} → None ≡ Some x → ⊥
      none_some e = cc

module _ {K : Type 0} (cmp : K → K → Ordering) where
  pub listed_more : (ks : List K) (k q : K) → is_listed cmp ks q ≡ true → is_listed cmp (ks ++ k ∷ []) q ≡ true
  listed_more ks k q h = list_any-append (is_at (cmp q)) ks (k ∷ []) ∙ or_left (is_listed cmp ks q) (is_listed cmp (k ∷ []) q) h

  pub listed_last : (ks : List K) (k q : K) → cmp q k ≡ Equal → is_listed cmp (ks ++ k ∷ []) q ≡ true
  listed_last ks k q h =
      list_any-append (is_at (cmp q)) ks (k ∷ []) ∙ or_right (is_listed cmp ks q) (is_listed cmp (k ∷ []) q) (or_left (is_at (cmp q) k) false (ap is_eq h))

  -- the vector of a number is changed
  module _ (vs : List (Vec K Global)) (n : ℕ) (old new : Vec K Global) (there : slice_get vs n ≡ Some old) where
    lists_set : lists_of (slice_set vs n new) ≡ slice_set (lists_of vs) n new.items
    lists_set = map-set (λ (v : Vec K Global). v.items) vs n new

    list_there : slice_get (lists_of vs) n ≡ Some old.items
    list_there = slice_get-map (λ (v : Vec K Global). v.items) vs n ∙ ap (option_map (λ (v : Vec K Global). v.items)) there

    pub kept_by : ((k : K) → is_listed cmp old.items k ≡ true → is_listed cmp new.items k ≡ true) → AreKept cmp (lists_of vs) (lists_of (slice_set vs n new))
    kept_by more = subst (λ ls. AreKept cmp (lists_of vs) ls) (sym lists_set) (kept_set cmp (lists_of vs) n old.items new.items list_there more)

    pub noted_by : (k : K) → is_listed cmp new.items k ≡ true → IsNoted cmp (lists_of (slice_set vs n new)) n k
    noted_by k h = subst (λ ls. IsNoted cmp ls n k) (sym lists_set) (noted_set cmp (lists_of vs) n old.items new.items k list_there h)

  pub none_noted : (vs : List (Vec K Global)) (n : ℕ) (k : K) → slice_get vs n ≡ None → IsNoted cmp (lists_of vs) n k
  none_noted vs n k none = not_noted cmp (lists_of vs) n k (slice_get-map (λ (v : Vec K Global). v.items) vs n ∙ ap (option_map (λ (v : Vec K Global). v.items)) none)

-- ---- the keys of all maps

zip_push : {A B : Type 0} (R : A → B → Type 0) (xs : List A) (ys : List B) (x : A) (y : B) → AllZip R xs ys → R x y → AllZip R (xs ++ x ∷ []) (ys ++ y ∷ [])
zip_push R [] [] x y h r = (r, tt)
zip_push R [] (b ∷ ys) x y h r = absurd h
zip_push R (a ∷ xs) [] x y h r = absurd h
zip_push R (a ∷ xs) (b ∷ ys) x y h r = (h.0, zip_push R xs ys x y h.1 r)

same_item : {X : Type 0} {x y : X} → Some x ≡ Some y → x ≡ y
same_item e = cc

some_list : {K : Type 0} (p : Option (Vec K Global)) (list : List K) → option_map (λ (v : Vec K Global). v.items) p ≡ Some list → (v : Vec K Global) × ((p ≡ Some v) × (v.items ≡ list))
some_list None list h = absurd (cc)
some_list (Some v) list h = (v, (refl, cc))

module _ {K V : Type 0} (cmp : K → K → Ordering) where
  -- each key of a map stands in the list
  abbrev pub HasKeys : Map K V → Vec K Global → Type 0
  HasKeys m v = (k : K) → is_listed cmp (keys m) k ≡ true → is_listed cmp v.items k ≡ true

  pub one_more_list : (maps : List (Map K V)) (i : ℕ) (m : Map K V) (lists : List (Vec K Global)) (v : Vec K Global) → i < length maps → m ≡ get_or maps i m → AllZip HasKeys (take i maps) lists → HasKeys m v →
      AllZip HasKeys (take (i + 1) maps) (lists ++ v ∷ [])
  one_more_list maps i m lists v lt is so_far has =
      subst (λ ms. AllZip HasKeys ms (lists ++ v ∷ [])) (ap (λ z. take i maps ++ z ∷ []) is ∙ sym (take_more maps i m lt)) (zip_push HasKeys (take i maps) lists m v so_far has)

  pub all_keys_listed : (maps : List (Map K V)) (lists : List (Vec K Global)) → AllZip HasKeys maps lists → AreListed cmp maps (lists_of lists)
  all_keys_listed maps lists h = λ n m list at there k stands.
      let found = paired HasKeys maps lists n m h at in
      let here = some_list (slice_get lists n) list (sym (slice_get-map (λ (v : Vec K Global). v.items) lists n) ∙ there) in
      subst (λ ks. is_listed cmp ks k ≡ true) (ap (λ (v : Vec K Global). v.items) (same_item (sym found.1.0 ∙ here.1.0)) ∙ here.1.1) (found.1.1 k stands)

  pub none_listed : (maps : List (Map K V)) → AreListed cmp maps []
  none_listed maps = λ n m list at there. absurd (nothing there)
    where
      nothing : {X : Type 0} {x : X} → None ≡ Some x → ⊥
      nothing e = cc

  pub listed_next : (o : IsTotalOrder cmp) (es : List (Bor (K × V))) (i : ℕ) (e : Bor (K × V)) (list : List K) (q : K) → i < length es → e ≡ get_or es i e → cmp e.now.0 q ≡ Equal →
      ((k : K) → is_listed cmp (keys_of (borrowed (take i es))) k ≡ true → is_listed cmp list k ≡ true) →
      (k : K) → is_listed cmp (keys_of (borrowed (take (i + 1) es))) k ≡ true → is_listed cmp (list ++ q ∷ []) k ≡ true
  listed_next o es i e list q lt is same before k h =
      let split : keys_of (borrowed (take (i + 1) es)) ≡ keys_of (borrowed (take i es)) ++ e.now.0 ∷ [] =
      ap (λ xs. keys_of (borrowed xs)) (take_more es i e lt ∙ ap (λ z. take i es ++ z ∷ []) (sym is))
      ∙ ap keys_of (map-append (λ (b : Bor (K × V)). b.now) (take i es) (e ∷ [])) ∙ map-append (λ (p : K × V). p.0) (borrowed (take i es)) (e.now ∷ []) in
      elim (or_either (is_listed cmp (keys_of (borrowed (take i es))) k) (is_listed cmp (e.now.0 ∷ []) k)
      (sym (list_any-append (is_at (cmp k)) (keys_of (borrowed (take i es))) (e.now.0 ∷ [])) ∙ ap (λ ks. is_listed cmp ks k) (sym split) ∙ h)) [
        | inl a ↦ listed_more cmp list q k (before k a)
        | inr b ↦ listed_last cmp list q k (o.congr k e.now.0 q (is_equal (cmp k e.now.0) (sole (is_at (cmp k) e.now.0) b)) ∙ same)
      ]
    where
      sole : (b : Bool) → (b || false) ≡ true → b ≡ true
      sole true g = refl
      sole false g = g

-- ---- answers

pub take_past : {X : Type 0} (xs : List X) (i : ℕ) → length xs ≤ i → take i xs ≡ xs
take_past [] zero h = refl
take_past [] (suc i) h = refl
take_past (x ∷ xs) zero h = absurd (omega (arith, h))
take_past (x ∷ xs) (suc i) h = ap (λ ys. x ∷ ys) (take_past xs i (omega (arith, h)))

pub found_as : {X E : Type 0} (r : Result X E) {a b : X} → IfOk r (λ x. x ≡ a) → a ≡ b → IfOk r (λ x. x ≡ b)
found_as (Ok x) h e = h ∙ e
found_as (Err f) h e = tt

pub found_alike : {A B : Type 0} (f : A → B) (p : Option A) → option_map (λ _. tt {0}) p ≡ option_map (λ _. tt {0}) (option_map f p)
found_alike f None = refl
found_alike f (Some x) = refl

pub on_err : {X E : Type 0} {P : Type 0} (r : Result X E) → P → OnErr r P
on_err (Ok x) h = tt
on_err (Err e) h = h

pub unlike : (b : Bool) → not b ≡ true → b ≡ false
unlike true h = cc
unlike false h = refl

pub alike : (b : Bool) → not b ≡ false → b ≡ true
alike true h = refl
alike false h = cc

-- ---- the keys of a map that is changed

module _ {K : Type 0} {cmp : K → K → Ordering} (o : IsTotalOrder cmp) (exact : (k q : K) → cmp k q ≡ Equal → k ≡ q) where
  same_at : (q k : K) → is_at (cmp q) k ≡ true → q ≡ k
  same_at q k h = exact q k (is_equal (cmp q k) h)

  module _ {V : Type 0} (k : K) (v : V) where
    insert_listed : (es : List (K × V)) (q : K) → is_listed cmp (keys_of (insert_entry cmp es k v)) q ≡ true → (q ≡ k) ⊎ (is_listed cmp (keys_of es) q ≡ true)
    insert_listed [] q h = elim (or_either (is_at (cmp q) k) false h) [ inl a ↦ inl (same_at q k a) | inr b ↦ inr b ]
    insert_listed (e ∷ es) q h = by (insert_listed es q) (cmp k e.0) h
      where
        by : (is_listed cmp (keys_of (insert_entry cmp es k v)) q ≡ true → (q ≡ k) ⊎ (is_listed cmp (keys_of es) q ≡ true)) → (r : Ordering) → is_listed cmp (keys_of (match_ordering r ((k, v) ∷ e ∷ es) ((e.0, v) ∷ es) (e ∷ insert_entry cmp es k v))) q ≡ true → (q ≡ k) ⊎ (is_listed cmp (keys_of (e ∷ es)) q ≡ true)
        by rest Less g = elim (or_either (is_at (cmp q) k) (is_listed cmp (keys_of (e ∷ es)) q) g) [ inl a ↦ inl (same_at q k a) | inr b ↦ inr b ]
        by rest Equal g = inr g
        by rest Greater g = elim (or_either (is_at (cmp q) e.0) (is_listed cmp (keys_of (insert_entry cmp es k v)) q) g) [
          | inl a ↦ inr (or_left (is_at (cmp q) e.0) (is_listed cmp (keys_of es) q) a)
          | inr b ↦ elim (rest b) [ inl s ↦ inl s | inr t ↦ inr (or_right (is_at (cmp q) e.0) (is_listed cmp (keys_of es) q) t) ]
        ]

    insert_keeps : (es : List (K × V)) (q : K) → is_listed cmp (keys_of es) q ≡ true → is_listed cmp (keys_of (insert_entry cmp es k v)) q ≡ true
    insert_keeps [] q h = or_right (is_at (cmp q) k) false h
    insert_keeps (e ∷ es) q h = by (insert_keeps es q) (cmp k e.0)
      where
        by : (is_listed cmp (keys_of es) q ≡ true → is_listed cmp (keys_of (insert_entry cmp es k v)) q ≡ true) → (r : Ordering) → is_listed cmp (keys_of (match_ordering r ((k, v) ∷ e ∷ es) ((e.0, v) ∷ es) (e ∷ insert_entry cmp es k v))) q ≡ true
        by rest Less = or_right (is_at (cmp q) k) (is_listed cmp (keys_of (e ∷ es)) q) h
        by rest Equal = h
        by rest Greater = elim (or_either (is_at (cmp q) e.0) (is_listed cmp (keys_of es) q) h) [
          | inl a ↦ or_left (is_at (cmp q) e.0) (is_listed cmp (keys_of (insert_entry cmp es k v)) q) a
          | inr b ↦ or_right (is_at (cmp q) e.0) (is_listed cmp (keys_of (insert_entry cmp es k v)) q) (rest b)
        ]

  module _ {V : Type 0} (k : K) where
    remove_listed : (es : List (K × V)) (q : K) → is_listed cmp (keys_of (remove_entry (is_at (cmp k)) es)) q ≡ true → is_listed cmp (keys_of es) q ≡ true
    remove_listed [] q h = h
    remove_listed (e ∷ es) q h = by (remove_listed es q) (is_at (cmp k) e.0) h
      where
        by : (is_listed cmp (keys_of (remove_entry (is_at (cmp k)) es)) q ≡ true → is_listed cmp (keys_of es) q ≡ true) → (b : Bool) → is_listed cmp (keys_of (cond b es (e ∷ remove_entry (is_at (cmp k)) es))) q ≡ true → is_listed cmp (keys_of (e ∷ es)) q ≡ true
        by rest true g = or_right (is_at (cmp q) e.0) (is_listed cmp (keys_of es) q) g
        by rest false g = elim (or_either (is_at (cmp q) e.0) (is_listed cmp (keys_of (remove_entry (is_at (cmp k)) es)) q) g) [
          | inl a ↦ or_left (is_at (cmp q) e.0) (is_listed cmp (keys_of es) q) a
          | inr b ↦ or_right (is_at (cmp q) e.0) (is_listed cmp (keys_of es) q) (rest b)
        ]

    remove_keeps : (es : List (K × V)) (q : K) → is_listed cmp (keys_of es) q ≡ true → (q ≡ k) ⊎ (is_listed cmp (keys_of (remove_entry (is_at (cmp k)) es)) q ≡ true)
    remove_keeps [] q h = inr h
    remove_keeps (e ∷ es) q h = by (remove_keeps es q) (is_at (cmp k) e.0) refl
      where
        by : (is_listed cmp (keys_of es) q ≡ true → (q ≡ k) ⊎ (is_listed cmp (keys_of (remove_entry (is_at (cmp k)) es)) q ≡ true)) → (b : Bool) → is_at (cmp k) e.0 ≡ b → (q ≡ k) ⊎ (is_listed cmp (keys_of (cond b es (e ∷ remove_entry (is_at (cmp k)) es))) q ≡ true)
        by rest true g = elim (or_either (is_at (cmp q) e.0) (is_listed cmp (keys_of es) q) h) [ inl a ↦ inl (same_at q e.0 a ∙ sym (same_at k e.0 g)) | inr b ↦ inr b ]
        by rest false g = elim (or_either (is_at (cmp q) e.0) (is_listed cmp (keys_of es) q) h) [
          | inl a ↦ inr (or_left (is_at (cmp q) e.0) (is_listed cmp (keys_of (remove_entry (is_at (cmp k)) es)) q) a)
          | inr b ↦ elim (rest b) [ inl s ↦ inl s | inr t ↦ inr (or_right (is_at (cmp q) e.0) (is_listed cmp (keys_of (remove_entry (is_at (cmp k)) es)) q) t) ]
        ]

  module _ {V : Type 0} (eq : V → V → Bool) (m : Map K V) (k : K) (v : V) where
    -- a key that stands after a change stood before, or is the one that was changed
    pub set_listed : (q : K) → is_listed cmp (keys (set cmp eq m k v)) q ≡ true → (q ≡ k) ⊎ (is_listed cmp (keys m) q ≡ true)
    set_listed q h = by (eq v m.default) h
      where
        by : (b : Bool) → is_listed cmp (keys_of (cond b (remove_entry (is_at (cmp k)) m.entries) (insert_entry cmp m.entries k v))) q ≡ true → (q ≡ k) ⊎ (is_listed cmp (keys m) q ≡ true)
        by true g = inr (remove_listed k m.entries q g)
        by false g = insert_listed k v m.entries q g

    -- a key that stood before stands after a change, or is the one that was given the default
    set_keeps : (q : K) → is_listed cmp (keys m) q ≡ true → ((q ≡ k) × (eq v m.default ≡ true)) ⊎ (is_listed cmp (keys (set cmp eq m k v)) q ≡ true)
    set_keeps q h = by (eq v m.default) refl
      where
        by : (b : Bool) → eq v m.default ≡ b → ((q ≡ k) × (eq v m.default ≡ true)) ⊎ (is_listed cmp (keys_of (cond b (remove_entry (is_at (cmp k)) m.entries) (insert_entry cmp m.entries k v))) q ≡ true)
        by true g = elim (remove_keeps k m.entries q h) [ inl s ↦ inl (s, g) | inr t ↦ inr t ]
        by false g = inr (insert_keeps k v m.entries q h)

  module _ {V : Type 0} (eq : V → V → Bool) where
    same_keys : (es fs : List (K × V)) → AllZip (λ p q. (cmp p.0 q.0 ≡ Equal) × (eq p.1 q.1 ≡ true)) es fs → keys_of es ≡ keys_of fs
    same_keys [] [] h = refl
    same_keys [] (f ∷ fs) h = absurd h
    same_keys (e ∷ es) [] h = absurd h
    same_keys (e ∷ es) (f ∷ fs) h =
        let first = exact e.0 f.0 h.0.0 in
        let rest = same_keys es fs h.1 in
        λ i. first i ∷ rest i

    -- after a change each map has the keys that it had, or those of the change
    abbrev pub KeysChanged : List (Map K V) → List (Map K V) → ℕ → K → V → Type 0
    KeysChanged maps after n k v =
        (i : ℕ) (new : Map K V) → slice_get after i ≡ Some new →
        (old : Map K V) × (slice_get maps i ≡ Some old) × ((keys new ≡ keys old) ⊎ ((i ≡ n) × (keys new ≡ keys (set cmp eq old k v))))

    changed_there : (maps : List (Map K V)) (n : ℕ) (k : K) (v : V) (p : Option (Map K V)) → slice_get maps n ≡ p → (i : ℕ) (u : Map K V) → slice_get (changed cmp eq maps n k v p) i ≡ Some u →
        (old : Map K V) × (slice_get maps i ≡ Some old) × ((u ≡ old) ⊎ ((i ≡ n) × (u ≡ set cmp eq old k v)))
    changed_there maps n k v None there i u h = (u, h, inl refl)
    changed_there maps n k v (Some m) there i u h = elim (set_found maps n i (set cmp eq m k v) u h) [
      | inl s ↦ (m, ap (slice_get maps) s.0 ∙ there, inr s)
      | inr t ↦ (u, t, inl refl)
    ]

    pub keys_changed : {X E : Type 0} (r : Result X E) (maps after : List (Map K V)) (n : ℕ) (k : K) (v : V) → OnOk r (AllZip (IsSame cmp eq) (changed_at cmp eq maps n k v) after) → OnErr r (after ≡ maps) → KeysChanged maps after n k v
    keys_changed (Err e) maps after n k v h f = λ i new at. (new, subst (λ ms. slice_get ms i ≡ Some new) f at, inl refl)
    keys_changed (Ok x) maps after n k v h f = λ i new at.
        let pair = paired_back (IsSame cmp eq) (changed_at cmp eq maps n k v) after i new h at in
        let was = changed_there maps n k v (slice_get maps n) refl i pair.0 pair.1.0 in
        let same = sym (same_keys pair.0.entries new.entries pair.1.1.entries) in
        (was.0, was.1, elim was.2 [ inl s ↦ inl (same ∙ ap keys s) | inr t ↦ inr (t.0, same ∙ ap keys t.1) ])

  -- ---- the lists stay complete

  pub loose_kept : {V : Type 0} (heaps : List (Map K V)) (masks : List (Map K Fraction)) (lists after : List (List K)) → AreLooseAmong cmp heaps masks lists → AreKept cmp lists after → AreLooseAmong cmp heaps masks after
  loose_kept heaps masks lists after all kept = λ i heap held list h m l q there free.
      let old = kept i list l in
      old.2 q (all i heap held old.0 h m old.1 q there free)

  pub loose_by_value : {V : Type 0} (eq : V → V → Bool) (heaps others : List (Map K V)) (masks : List (Map K Fraction)) (lists after : List (List K)) (n : ℕ) (k : K) (v : V) →
      AreLooseAmong cmp heaps masks lists → AreKept cmp lists after →
      ((held : Map K Fraction) → slice_get masks n ≡ Some held → is_listed cmp (keys held) k ≡ false → IsNoted cmp after n k) →
      KeysChanged eq heaps others n k v → AreLooseAmong cmp others masks after
  loose_by_value eq heaps others masks lists after n k v all kept noted changes = λ i heap held list h m l q there free.
      let old = kept i list l in
      let was = changes i heap h in
      let before : is_listed cmp (keys was.0) q ≡ true → is_listed cmp list q ≡ true = λ t. old.2 q (all i was.0 held old.0 was.1 m old.1 q t free) in
      elim was.2 [
        | inl s ↦ before (subst (λ ks. is_listed cmp ks q ≡ true) s there)
        | inr c ↦ elim (set_listed eq was.0 k v q (subst (λ ks. is_listed cmp ks q ≡ true) c.1 there)) [
          | inl e ↦ subst (λ x. is_listed cmp list x ≡ true) (sym e) (noted held (subst (λ j. slice_get masks j ≡ Some held) c.0 m) (subst (λ x. is_listed cmp (keys held) x ≡ false) e free) list (subst (λ j. slice_get after j ≡ Some list) c.0 l))
          | inr t ↦ before t
        ]
      ]

  false_else : (b : Bool) → (b ≡ true → ⊥) → b ≡ false
  false_else true h = absurd (h refl)
  false_else false h = refl

  pub loose_by_permission : {V : Type 0} (heaps : List (Map K V)) (masks others : List (Map K Fraction)) (lists after : List (List K)) (n : ℕ) (k : K) (p : Fraction) →
      AreLooseAmong cmp heaps masks lists → AreKept cmp lists after →
      ((held : Map K Fraction) → slice_get masks n ≡ Some held → fraction_eq p held.default ≡ true → IsNoted cmp after n k) →
      KeysChanged fraction_eq masks others n k p → AreLooseAmong cmp heaps others after
  loose_by_permission {V} heaps masks others lists after n k p all kept noted changes = λ i heap held list h m l q there free.
      let old = kept i list l in
      let was = changes i held m in
      by i heap list h l q there was.0 was.1 (λ f. old.2 q (all i heap was.0 old.0 h was.1 old.1 q there f)) (is_listed cmp (keys was.0) q) refl
      (λ stood. elim was.2 [
        | inl s ↦ inl (true≢false (sym stood ∙ ap (λ ks. is_listed cmp ks q) (sym s) ∙ free))
        | inr c ↦ elim (set_keeps fraction_eq was.0 k p q stood) [
          | inl e ↦ inr (c.0, e)
          | inr t ↦ inl (true≢false (sym t ∙ ap (λ ks. is_listed cmp ks q) (sym c.1) ∙ free))
        ]
      ])
    where
      by : (i : ℕ) (heap : Map K V) (list : List K) → slice_get heaps i ≡ Some heap → slice_get after i ≡ Some list → (q : K) → is_listed cmp (keys heap) q ≡ true →
          (was : Map K Fraction) → slice_get masks i ≡ Some was → (is_listed cmp (keys was) q ≡ false → is_listed cmp list q ≡ true) → (b : Bool) → is_listed cmp (keys was) q ≡ b →
          (is_listed cmp (keys was) q ≡ true → ⊥ ⊎ ((i ≡ n) × ((q ≡ k) × (fraction_eq p was.default ≡ true)))) → is_listed cmp list q ≡ true
      by i heap list h l q there was w before false is gone = before is
      by i heap list h l q there was w before true is gone = elim (gone is) [
        | inl e ↦ absurd e
        | inr e ↦ subst (λ x. is_listed cmp list x ≡ true) (sym e.1.0) (noted was (subst (λ j. slice_get masks j ≡ Some was) e.0 w) e.1.1 list (subst (λ j. slice_get after j ≡ Some list) e.0 l))
      ]

  pub loose_from_keys : {V : Type 0} (heaps : List (Map K V)) (masks : List (Map K Fraction)) (lists : List (List K)) → AreListed cmp heaps lists → AreLooseAmong cmp heaps masks lists
  loose_from_keys heaps masks lists all = λ i heap held list h m l q there free. all i heap list h l q there

-- what is held has an entry
module _ {K : Type 0} (cmp : K → K → Ordering) {V : Type 0} (eq : V → V → Bool) where
  listed_by : (es : List (K × V)) (z : V) (q : K) → eq z z ≡ true → eq (unwrap_or (lookup (is_at (cmp q)) es) z) z ≡ false → is_listed cmp (keys_of es) q ≡ true
  listed_by [] z q same h = absurd (true≢false (sym same ∙ h))
  listed_by (e ∷ es) z q same h = by (listed_by es z q same) (is_at (cmp q) e.0) h
    where
      by : (eq (unwrap_or (lookup (is_at (cmp q)) es) z) z ≡ false → is_listed cmp (keys_of es) q ≡ true) → (b : Bool) → eq (unwrap_or (cond b (Some e.1) (lookup (is_at (cmp q)) es)) z) z ≡ false → (b || is_listed cmp (keys_of es) q) ≡ true
      by rest true g = refl
      by rest false g = rest g

  pub get_listed : (m : Map K V) (q : K) → eq m.default m.default ≡ true → eq (get cmp m q) m.default ≡ false → is_listed cmp (keys m) q ≡ true
  get_listed m q = listed_by m.entries m.default q
