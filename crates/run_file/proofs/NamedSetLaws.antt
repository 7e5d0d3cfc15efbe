-- What lines have named is kept in a set for the variables, one for each field and one for each predicate. Together they are one
-- set in the order of names.
use Rattle.std.proofs.Common.{◌≡◌, ◌∙◌, ◌+◌, ◌<◌, ◌≤◌, ◌||◌, ℕ, zero, suc, false, List, [], ◌∷◌, ◌++◌, length, get_or, slice_set, map, refl, sym, ap, arith}
use Rattle.std.specs.BTreeMap.{is_at}
use Rattle.std.specs.BTreeSet.{BTreeSet, insert_key}
use Rattle.std.specs.Cmp.{nat_cmp_is}
use Rattle.std.specs.List.{AllByRecursion}
use Rattle.std.specs.Ordering.{nat_cmp, match_ordering, ordering_then}
use Rattle.std.specs.declared.cmp.Ordering.{Ordering}
use Rattle.std.specs.declared.cmp.Ordering.TheVariants.{Less, Equal, Greater}
use Rattle.std.proofs.lemmas.List.{length-map, map-append, map-set, get_or-map}
use Rattle.vb_value.specs.Key.{key_cmp}
use Rattle.viper_state.specs.State.{Key}
use Rattle.run_file_words.specs.Machine.{among}
use Rattle.run_file.specs.NamedOrder.{named_cmp}
use Rattle.run_file.specs.NamedView.{keys_of, with_key, names_from}
use Rattle.run_file.specs.declared.lines.LineTarget.{LineTarget}
use Rattle.run_file.specs.declared.lines.LineTarget.TheVariants.{Variable, Place, Instance}
use Rattle.run_file_words.proofs.OnceLaws.{nat_self}

-- ---- a key above a list, and below one

abbrev IsAbove : {K : Type 0} → (K → K → Ordering) → K → List K → Type 0
IsAbove cmp k xs = AllByRecursion (λ x. cmp k x ≡ Greater) xs

abbrev IsBelow : {K : Type 0} → (K → K → Ordering) → K → List K → Type 0
IsBelow cmp k xs = AllByRecursion (λ x. cmp k x ≡ Less) xs

module _ {K : Type 0} (P : K → Type 0) where
  both_lists : (xs ys : List K) → AllByRecursion P xs → AllByRecursion P ys → AllByRecursion P (xs ++ ys)
  both_lists [] ys a b = b
  both_lists (x ∷ xs) ys a b = (a.0, both_lists xs ys a.1 b)

  of_each : {X : Type 0} (f : X → K) (xs : List X) → ((x : X) → P (f x)) → AllByRecursion P (map f xs)
  of_each f [] h = tt
  of_each f (x ∷ xs) h = (h x, of_each f xs h)

module _ {K : Type 0} (cmp : K → K → Ordering) (k : K) where
  -- a key above a list goes behind it
  insert_behind : (xs ys : List K) → IsAbove cmp k xs → insert_key cmp (xs ++ ys) k ≡ xs ++ insert_key cmp ys k
  insert_behind [] ys h = refl
  insert_behind (x ∷ xs) ys h = rw h.0 (ap (λ zs. x ∷ zs) (insert_behind xs ys h.1))

  among_behind : (xs ys : List K) → IsAbove cmp k xs → among cmp (xs ++ ys) k ≡ among cmp ys k
  among_behind [] ys h = refl
  among_behind (x ∷ xs) ys h = rw h.0 (among_behind xs ys h.1)

  in_front : (zs : List K) → IsBelow cmp k zs → insert_key cmp zs k ≡ k ∷ zs
  in_front [] h = refl
  in_front (z ∷ zs) h = rw h.0 refl

  not_among : (zs : List K) → IsBelow cmp k zs → among cmp zs k ≡ false
  not_among [] h = refl
  not_among (z ∷ zs) h = rw h.0 (not_among zs h.1)

  either_way : (x : K) (xs zs more : List K) → more ≡ insert_key cmp xs k ++ zs → (o : Ordering) →
      match_ordering o (k ∷ x ∷ (xs ++ zs)) (x ∷ (xs ++ zs)) (x ∷ more) ≡ match_ordering o (k ∷ x ∷ xs) (x ∷ xs) (x ∷ insert_key cmp xs k) ++ zs
  either_way x xs zs more rest Less = refl
  either_way x xs zs more rest Equal = refl
  either_way x xs zs more rest Greater = ap (λ ys. x ∷ ys) rest

  -- and one below a list goes before it
  insert_before : (xs zs : List K) → IsBelow cmp k zs → insert_key cmp (xs ++ zs) k ≡ insert_key cmp xs k ++ zs
  insert_before [] zs h = in_front zs h
  insert_before (x ∷ xs) zs h = either_way x xs zs _ (insert_before xs zs h) (cmp k x)

  among_before : (xs zs : List K) → IsBelow cmp k zs → among cmp (xs ++ zs) k ≡ among cmp xs k
  among_before [] zs h = not_among zs h
  among_before (x ∷ xs) zs h = ap (λ b. is_at (cmp k) x || b) (among_before xs zs h)

-- ---- keys and their names

module _ {K X : Type 0} (kcmp : K → K → Ordering) (cmp : X → X → Ordering) (f : K → X) (alike : (k x : K) → cmp (f k) (f x) ≡ kcmp k x) (k : K) where
  each_way : (x : K) (xs : List K) (more : List X) → more ≡ map f (insert_key kcmp xs k) → (o : Ordering) →
      match_ordering o (f k ∷ f x ∷ map f xs) (f x ∷ map f xs) (f x ∷ more) ≡ map f (match_ordering o (k ∷ x ∷ xs) (x ∷ xs) (x ∷ insert_key kcmp xs k))
  each_way x xs more rest Less = refl
  each_way x xs more rest Equal = refl
  each_way x xs more rest Greater = ap (λ ys. f x ∷ ys) rest

  insert_mapped : (xs : List K) → insert_key cmp (map f xs) (f k) ≡ map f (insert_key kcmp xs k)
  insert_mapped [] = refl
  insert_mapped (x ∷ xs) = rw (alike k x) (each_way x xs _ (insert_mapped xs) (kcmp k x))

  among_mapped : (xs : List K) → among cmp (map f xs) (f k) ≡ among kcmp xs k
  among_mapped [] = refl
  among_mapped (x ∷ xs) = rw (alike k x) (ap (λ b. is_at (kcmp k) x || b) (among_mapped xs))

-- names go by their numbers, and under one number by their keys
record IsNumbered {K : Type 0} (cmp : K → K → Ordering) (name : ℕ → K → LineTarget) : Type 0 where
  alike : (n : ℕ) (k x : K) → named_cmp (name n k) (name n x) ≡ cmp k x
  above : (n m : ℕ) (k x : K) → m < n → named_cmp (name n k) (name m x) ≡ Greater
  below : (n m : ℕ) (k x : K) → n < m → named_cmp (name n k) (name m x) ≡ Less

module _ {K : Type 0} (cmp : K → K → Ordering) (name : ℕ → K → LineTarget) where
  -- what holds of each name holds of those of all sets
  of_all : (P : LineTarget → Type 0) → ((n : ℕ) (k : K) → P (name n k)) → (sets : List (List K)) (m : ℕ) → AllByRecursion P (names_from name m sets)
  of_all P h [] m = tt
  of_all P h (set ∷ sets) m = both_lists P (map (name m) set) (names_from name (m + 1) sets) (of_each P (name m) set (h m)) (of_all P h sets (m + 1))

  module _ (numbered : IsNumbered cmp name) where
    below_later : (n m : ℕ) (k : K) (sets : List (List K)) → n < m → IsBelow named_cmp (name n k) (names_from name m sets)
    below_later n m k [] h = tt
    below_later n m k (set ∷ sets) h =
        both_lists (λ z. named_cmp (name n k) z ≡ Less) (map (name m) set) (names_from name (m + 1) sets)
        (of_each (λ z. named_cmp (name n k) z ≡ Less) (name m) set (λ x. numbered.below n m k x h))
        (below_later n (m + 1) k sets (omega (arith, h)))

    -- a name more is a key more in the set of its number
    insert_numbered : (sets : List (List K)) (n m i : ℕ) (k : K) → i ≡ m + n → insert_key named_cmp (names_from name m sets) (name i k) ≡ names_from name m (with_key cmp sets n k)
    insert_numbered [] zero m i k is = ap (λ j. name j k ∷ []) (omega (arith, is))
    insert_numbered [] (suc n) m i k is = insert_numbered [] n (m + 1) i k (omega (arith, is))
    insert_numbered (set ∷ sets) zero m i k is =
        let here : i ≡ m = omega (arith, is) in
        rw here
        (insert_before named_cmp (name m k) (map (name m) set) (names_from name (m + 1) sets) (below_later m (m + 1) k sets (omega arith)) ∙
        ap (λ ns. ns ++ names_from name (m + 1) sets) (insert_mapped cmp named_cmp (name m) (numbered.alike m) k set))
    insert_numbered (set ∷ sets) (suc n) m i k is =
        insert_behind named_cmp (name i k) (map (name m) set) (names_from name (m + 1) sets)
        (of_each (λ z. named_cmp (name i k) z ≡ Greater) (name m) set (λ x. numbered.above i m k x (omega (arith, is)))) ∙
        ap (λ ns. map (name m) set ++ ns) (insert_numbered sets n (m + 1) i k (omega (arith, is)))

    among_numbered : (sets : List (List K)) (n m i : ℕ) (k : K) → i ≡ m + n → among named_cmp (names_from name m sets) (name i k) ≡ among cmp (get_or sets n []) k
    among_numbered [] zero m i k is = refl
    among_numbered [] (suc n) m i k is = refl
    among_numbered (set ∷ sets) zero m i k is =
        let here : i ≡ m = omega (arith, is) in
        rw here
        (among_before named_cmp (name m k) (map (name m) set) (names_from name (m + 1) sets) (below_later m (m + 1) k sets (omega arith)) ∙
        among_mapped cmp named_cmp (name m) (numbered.alike m) k set)
    among_numbered (set ∷ sets) (suc n) m i k is =
        among_behind named_cmp (name i k) (map (name m) set) (names_from name (m + 1) sets)
        (of_each (λ z. named_cmp (name i k) z ≡ Greater) (name m) set (λ x. numbered.above i m k x (omega (arith, is)))) ∙
        among_numbered sets n (m + 1) i k (omega (arith, is))

-- ---- places and instances are numbered so

less : (n m : ℕ) → n < m → nat_cmp n m ≡ Less
less n m h = sym (nat_cmp_is n m Less h)

greater : (n m : ℕ) → m < n → nat_cmp n m ≡ Greater
greater n m h = sym (nat_cmp_is n m Greater h)

numbered_places : IsNumbered nat_cmp Place
numbered_places = record {
  alike = λ n k x. ap (λ o. ordering_then o (nat_cmp k x)) (nat_self n);
  above = λ n m k x h. ap (λ o. ordering_then o (nat_cmp k x)) (greater n m h);
  below = λ n m k x h. ap (λ o. ordering_then o (nat_cmp k x)) (less n m h);
}

numbered_instances : IsNumbered key_cmp Instance
numbered_instances = record {
  alike = λ n k x. ap (λ o. ordering_then o (key_cmp k x)) (nat_self n);
  above = λ n m k x h. ap (λ o. ordering_then o (key_cmp k x)) (greater n m h);
  below = λ n m k x h. ap (λ o. ordering_then o (key_cmp k x)) (less n m h);
}

-- ---- all that was named

abbrev pub all_named : List ℕ → List (List ℕ) → List (List Key) → List LineTarget
all_named vs ps qs = map Variable vs ++ (names_from Place 0 ps ++ names_from Instance 0 qs)

module _ (vs : List ℕ) (ps : List (List ℕ)) (qs : List (List Key)) where
  module _ (n : ℕ) where
    variable_first : IsBelow named_cmp (Variable n) (names_from Place 0 ps ++ names_from Instance 0 qs)
    variable_first =
        both_lists (λ z. named_cmp (Variable n) z ≡ Less) (names_from Place 0 ps) (names_from Instance 0 qs)
        (of_all nat_cmp Place (λ z. named_cmp (Variable n) z ≡ Less) (λ f r. refl) ps 0)
        (of_all key_cmp Instance (λ z. named_cmp (Variable n) z ≡ Less) (λ q k. refl) qs 0)

    pub variable_inserted : insert_key named_cmp (all_named vs ps qs) (Variable n) ≡ all_named (insert_key nat_cmp vs n) ps qs
    variable_inserted =
        insert_before named_cmp (Variable n) (map Variable vs) _ variable_first ∙
        ap (λ ns. ns ++ (names_from Place 0 ps ++ names_from Instance 0 qs)) (insert_mapped nat_cmp named_cmp Variable (λ k x. refl) n vs)

    pub variable_among : among named_cmp (all_named vs ps qs) (Variable n) ≡ among nat_cmp vs n
    variable_among =
        among_before named_cmp (Variable n) (map Variable vs) _ variable_first ∙
        among_mapped nat_cmp named_cmp Variable (λ k x. refl) n vs

  module _ (f r : ℕ) where
    above_variables : IsAbove named_cmp (Place f r) (map Variable vs)
    above_variables = of_each (λ z. named_cmp (Place f r) z ≡ Greater) Variable vs (λ n. refl)

    below_instances : IsBelow named_cmp (Place f r) (names_from Instance 0 qs)
    below_instances = of_all key_cmp Instance (λ z. named_cmp (Place f r) z ≡ Less) (λ q k. refl) qs 0

    pub place_inserted : insert_key named_cmp (all_named vs ps qs) (Place f r) ≡ all_named vs (with_key nat_cmp ps f r) qs
    place_inserted =
        insert_behind named_cmp (Place f r) (map Variable vs) _ above_variables ∙
        ap (λ ns. map Variable vs ++ ns)
        (insert_before named_cmp (Place f r) (names_from Place 0 ps) (names_from Instance 0 qs) below_instances ∙
        ap (λ ns. ns ++ names_from Instance 0 qs) (insert_numbered nat_cmp Place numbered_places ps f 0 f r (omega arith)))

    pub place_among : among named_cmp (all_named vs ps qs) (Place f r) ≡ among nat_cmp (get_or ps f []) r
    place_among =
        among_behind named_cmp (Place f r) (map Variable vs) _ above_variables ∙
        (among_before named_cmp (Place f r) (names_from Place 0 ps) (names_from Instance 0 qs) below_instances ∙
        among_numbered nat_cmp Place numbered_places ps f 0 f r (omega arith))

  module _ (q : ℕ) (k : Key) where
    instance_above_variables : IsAbove named_cmp (Instance q k) (map Variable vs)
    instance_above_variables = of_each (λ z. named_cmp (Instance q k) z ≡ Greater) Variable vs (λ n. refl)

    above_places : IsAbove named_cmp (Instance q k) (names_from Place 0 ps)
    above_places = of_all nat_cmp Place (λ z. named_cmp (Instance q k) z ≡ Greater) (λ f r. refl) ps 0

    pub instance_inserted : insert_key named_cmp (all_named vs ps qs) (Instance q k) ≡ all_named vs ps (with_key key_cmp qs q k)
    instance_inserted =
        insert_behind named_cmp (Instance q k) (map Variable vs) _ instance_above_variables ∙
        ap (λ ns. map Variable vs ++ ns)
        (insert_behind named_cmp (Instance q k) (names_from Place 0 ps) (names_from Instance 0 qs) above_places ∙
        ap (λ ns. names_from Place 0 ps ++ ns) (insert_numbered key_cmp Instance numbered_instances qs q 0 q k (omega arith)))

    pub instance_among : among named_cmp (all_named vs ps qs) (Instance q k) ≡ among key_cmp (get_or qs q []) k
    instance_among =
        among_behind named_cmp (Instance q k) (map Variable vs) _ instance_above_variables ∙
        (among_behind named_cmp (Instance q k) (names_from Place 0 ps) (names_from Instance 0 qs) above_places ∙
        among_numbered key_cmp Instance numbered_instances qs q 0 q k (omega arith))

-- ---- sets that are not there yet are empty

module _ {K : Type 0} (cmp : K → K → Ordering) (k : K) where
  with_key_grown : (sets : List (List K)) (n : ℕ) → length sets ≤ n → with_key cmp (sets ++ [] ∷ []) n k ≡ with_key cmp sets n k
  with_key_grown [] zero h = refl
  with_key_grown [] (suc n) h = refl
  with_key_grown (set ∷ sets) zero h = absurd (omega (arith, h))
  with_key_grown (set ∷ sets) (suc n) h = ap (λ ss. set ∷ ss) (with_key_grown sets n (omega (arith, h)))

  keys_grown : (sets : List (List K)) (n : ℕ) → length sets ≤ n → get_or (sets ++ [] ∷ []) n [] ≡ get_or sets n []
  keys_grown [] zero h = refl
  keys_grown [] (suc n) h = refl
  keys_grown (set ∷ sets) zero h = absurd (omega (arith, h))
  keys_grown (set ∷ sets) (suc n) h = keys_grown sets n (omega (arith, h))

  with_key_there : (sets : List (List K)) (n : ℕ) → n < length sets → slice_set sets n (insert_key cmp (get_or sets n []) k) ≡ with_key cmp sets n k
  with_key_there [] n h = absurd (omega (arith, h))
  with_key_there (set ∷ sets) zero h = refl
  with_key_there (set ∷ sets) (suc n) h = ap (λ ss. set ∷ ss) (with_key_there sets n (omega (arith, h)))

  -- some sets and others that a key more, under this number, makes the same
  pub record IsAlike (n : ℕ) (first sets : List (BTreeSet K)) : Type 0 where
    pub more : with_key cmp (map keys_of sets) n k ≡ with_key cmp (map keys_of first) n k
    pub keys : get_or (map keys_of sets) n [] ≡ get_or (map keys_of first) n []

  -- so are they with an empty set more
  pub grown : (n : ℕ) (first sets more : List (BTreeSet K)) (set : BTreeSet K) → more ≡ sets ++ set ∷ [] → set.keys ≡ [] → length sets ≤ n → IsAlike n first sets → IsAlike n first more
  grown n first sets more set pushed none h so_far =
      let is : map keys_of more ≡ map keys_of sets ++ [] ∷ [] =
      ap (map keys_of) pushed ∙ map-append keys_of sets (set ∷ []) ∙ ap (λ ks. map keys_of sets ++ ks ∷ []) none in
      let within : length (map keys_of sets) ≤ n = omega (arith, h, length-map sets keys_of) in
      record { more = rw is (with_key_grown (map keys_of sets) n within ∙ so_far.more); keys = rw is (keys_grown (map keys_of sets) n within ∙ so_far.keys) }

  -- a key more in a set that is there
  pub put_there : (n : ℕ) (first sets : List (BTreeSet K)) (old new : BTreeSet K) → n < length sets → old ≡ get_or sets n old → new.keys ≡ insert_key cmp old.keys k →
      IsAlike n first sets → map keys_of (slice_set sets n new) ≡ with_key cmp (map keys_of first) n k
  put_there n first sets old new h is put so_far =
      let found : get_or (map keys_of sets) n [] ≡ old.keys = get_or-map keys_of sets n old [] h ∙ ap keys_of (sym is) in
      map-set keys_of sets n new ∙
      ap (λ ks. slice_set (map keys_of sets) n ks) (put ∙ ap (λ ks. insert_key cmp ks k) (sym found)) ∙
      with_key_there (map keys_of sets) n (omega (arith, h, length-map sets keys_of)) ∙
      so_far.more
