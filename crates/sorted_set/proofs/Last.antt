-- The last key of a list in ascending order, and a key that goes behind it.
use Rattle.std.proofs.Common.{◌≡◌, ℕ, zero, suc, ◌+◌, ◌-◌, true, false, slice_get, List, [], ◌∷◌, ◌++◌, length, refl, sym, ap, ◌∙◌, arith, append-nil}
use Rattle.std.specs.List.{AllByRecursion, list_any}
use Rattle.std.specs.List.Sorted.{IsStrictlySortedBy}
use Rattle.std.specs.BTreeMap.{is_at}
use Rattle.std.specs.BTreeSet.{insert_key}
use Rattle.std.specs.Cmp.{IsTotalOrder}
use Rattle.std.specs.Ordering.{is_ge, ordering_reverse}
use Rattle.std.specs.declared.cmp.Ordering.{Ordering}
use Rattle.std.specs.declared.cmp.Ordering.TheVariants.{Less, Equal, Greater}
use Rattle.std.specs.declared.option.Option.TheVariants.{Some}
use Rattle.std.proofs.lemmas.Cmp.{alike_right}
use Rattle.sorted_set.specs.Above.{order_above}

module _ {K : Type 0} (R : K → K → Ordering) (k : K) where
  order_at : (list : List K) (last : K) (i : ℕ) → length list ≡ i + 1 → slice_get list i ≡ Some last → R k last ≡ order_above R list k
  order_at [] last i n at = absurd (omega arith)
  order_at (x ∷ []) last zero n at = let is : x ≡ last = cc in ap (R k) (sym is)
  order_at (x ∷ []) last (suc i) n at = absurd (omega arith)
  order_at (x ∷ y ∷ ys) last zero n at = absurd (omega arith)
  order_at (x ∷ y ∷ ys) last (suc i) n at = order_at (y ∷ ys) last i (omega arith) at

  -- a key compares to a list as to its last
  pub order_by_last : (list : List K) (last : K) → Some last ≡ slice_get list (length list - 1) → R k last ≡ order_above R list k
  order_by_last [] last at = absurd cc
  order_by_last (x ∷ xs) last at = order_at (x ∷ xs) last (length (x ∷ xs) - 1) (omega arith) (sym at)

module _ {K : Type 0} {R : K → K → Ordering} (o : IsTotalOrder R) where
  -- a key below others goes in front of them
  put_in_front : (xs ks : List K) (k : K) → IsStrictlySortedBy R ((xs ++ k ∷ []) ++ ks) → xs ++ insert_key R ks k ≡ (xs ++ k ∷ []) ++ ks
  unfolding IsStrictlySortedBy
  put_in_front [] [] k s = refl
  put_in_front [] (y ∷ ks) k s = rw s.0.0 refl
  put_in_front (x ∷ xs) ks k s = ap (λ (t : List K). x ∷ t) (put_in_front xs ks k s.1)

  -- the last key of a list, moved in front of keys that are above the list
  pub moved : (front listed ks more keys : List K) (k : K) → IsStrictlySortedBy R keys → listed ≡ front ++ k ∷ [] → more ≡ insert_key R ks k → listed ++ ks ≡ keys → front ++ more ≡ keys
  moved front listed ks more keys k s ends inserted same =
      let together : (front ++ k ∷ []) ++ ks ≡ keys = ap (λ (t : List K). t ++ ks) (sym ends) ∙ same in
      ap (λ (t : List K). front ++ t) inserted ∙ put_in_front front ks k (rw together s) ∙ together

  -- an answer the other way round
  turned : (a b : K) (r : Ordering) → R a b ≡ r → R b a ≡ ordering_reverse r
  turned a b r h = o.antisymm b a ∙ ap ordering_reverse h

  module _ (k : K) where
    -- a key that is above the last of a list, or equal to it, is above one that is below all of the list
    above_first : (r : Ordering) → is_ge r ≡ true → (x y : K) (ys : List K) → AllByRecursion (λ q. R x q ≡ Less) (y ∷ ys) → order_above R (y ∷ ys) k ≡ r → R k x ≡ Greater
    above_first Less e x y ys a h = absurd cc
    above_first Equal e x y [] a h = turned x k Less (alike_right o k y x h ∙ a.0)
    above_first Greater e x y [] a h = turned x k Less (o.trans x y k a.0 (turned k y Greater h))
    above_first Equal e x y (z ∷ zs) a h = above_first Equal e x z zs a.1 h
    above_first Greater e x y (z ∷ zs) a h = above_first Greater e x z zs a.1 h

    -- a key above the last is above all
    above_all : (list : List K) → IsStrictlySortedBy R list → order_above R list k ≡ Greater → AllByRecursion (λ q. R k q ≡ Greater) list
    unfolding IsStrictlySortedBy
    above_all [] s h = tt
    above_all (x ∷ []) s h = (h, tt)
    above_all (x ∷ y ∷ ys) s h = (above_first Greater refl x y ys s.0 h, above_all (y ∷ ys) s.1 h)

    none_at : (list : List K) → AllByRecursion (λ q. R k q ≡ Greater) list → false ≡ list_any (is_at (R k)) list
    none_at [] a = refl
    none_at (x ∷ xs) a = rw a.0 (none_at xs a.1)

    at_end : (list : List K) → AllByRecursion (λ q. R k q ≡ Greater) list → list ++ k ∷ [] ≡ insert_key R list k
    at_end [] a = refl
    at_end (x ∷ xs) a = rw a.0 (ap (λ (t : List K). x ∷ t) (at_end xs a.1))

    all_with : (P : K → Type 0) (list : List K) → AllByRecursion P list → P k → AllByRecursion P (list ++ k ∷ [])
    all_with P [] a p = (p, tt)
    all_with P (x ∷ xs) a p = (a.0, all_with P xs a.1 p)

    sorted_with : (list : List K) → IsStrictlySortedBy R list → AllByRecursion (λ q. R k q ≡ Greater) list → IsStrictlySortedBy R (list ++ k ∷ [])
    unfolding IsStrictlySortedBy
    sorted_with [] s a = (tt, tt)
    sorted_with (x ∷ xs) s a = (all_with (λ q. R x q ≡ Less) xs s.0 (turned k x Greater a.0), sorted_with xs s.1 a.1)

    there : (list : List K) → IsStrictlySortedBy R list → order_above R list k ≡ Equal → (true ≡ list_any (is_at (R k)) list) × (list ≡ insert_key R list k)
    unfolding IsStrictlySortedBy
    there [] s h = absurd cc
    there (x ∷ []) s h = (rw h refl, rw h refl)
    there (x ∷ y ∷ ys) s h =
        let rest : (true ≡ list_any (is_at (R k)) (y ∷ ys)) × (y ∷ ys ≡ insert_key R (y ∷ ys) k) = there (y ∷ ys) s.1 h in
        let above : R k x ≡ Greater = above_first Equal refl x y ys s.0 h in
        (rw above rest.0, rw above (ap (λ (t : List K). x ∷ t) rest.1))

  -- where no key is settled, the keys are those that are listed
  alone : (listed settled keys : List K) → length settled ≡ 0 → listed ++ settled ≡ keys → listed ≡ keys
  alone listed [] keys none same = sym (append-nil listed) ∙ same
  alone listed (x ∷ xs) keys none same = absurd (omega (arith, none))

  module _ (listed settled seen keys : List K) (k : K) (none : length settled ≡ 0) (same : listed ++ settled ≡ keys) (sorted : IsStrictlySortedBy R (listed ++ settled)) (seen_is : seen ≡ listed) where
    is_sorted : IsStrictlySortedBy R keys
    is_sorted = rw (← same) sorted

    is_seen : seen ≡ keys
    is_seen = seen_is ∙ alone listed settled keys none same

    -- a key that is equal to the last is there already
    pub is_there : Equal ≡ order_above R seen k → (true ≡ list_any (is_at (R k)) keys) × (keys ≡ insert_key R keys k)
    is_there h = there k keys is_sorted (rw (← is_seen) (sym h))

    -- what holds of a key that goes behind the last
    pub record IsPut (more : List K) : Type 0 where
      pub is_new : false ≡ list_any (is_at (R k)) keys
      pub goes_there : more ++ settled ≡ insert_key R keys k
      pub ordered : IsStrictlySortedBy R (more ++ settled)

    pub is_put : (more : List K) → more ≡ listed ++ k ∷ [] → Greater ≡ order_above R seen k → IsPut more
    is_put more more_is h =
        let a : AllByRecursion (λ q. R k q ≡ Greater) keys = above_all k keys is_sorted (rw (← is_seen) (sym h)) in
        let all : more ++ settled ≡ keys ++ k ∷ [] = sym (alone more settled (more ++ settled) none refl) ∙ more_is ∙ ap (λ (t : List K). t ++ k ∷ []) (alone listed settled keys none same) in
        record { is_new = none_at k keys a; goes_there = all ∙ at_end k keys a; ordered = rw all (sorted_with k keys is_sorted a) }
