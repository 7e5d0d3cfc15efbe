-- A list that is sorted, and then left by what stands twice, is the list in ascending order.
use Rattle.std.proofs.Common.{◌≡◌, ◌∙◌, ℕ, true, ◌||◌, eqb, List, [], ◌∷◌, refl, sym, ap}
use Rattle.std.specs.List.{fold, list_any, dedup, Contains, AllByRecursion}
use Rattle.std.specs.List.Sorted.{IsPermutation, IsSorted, IsStrictlySortedBy}
use Rattle.std.specs.BTreeMap.{is_at}
use Rattle.std.specs.BTreeSet.{insert_key}
use Rattle.std.specs.Cmp.{IsTotalOrder, both_ways}
use Rattle.std.specs.Ordering.{is_eq, match_ordering, nat_cmp, ordering_reverse}
use Rattle.std.specs.declared.cmp.Ordering.{Ordering}
use Rattle.std.specs.declared.cmp.Ordering.TheVariants.{Less, Equal, Greater}
use Rattle.std.proofs.lemmas.Cmp.{alike_right, nat_cmp_total, eq_by_cmp_equiv}
use Rattle.std.proofs.lemmas.List.Kept.{Contains-dedup_nat, Contains-from_dedup}
use Rattle.std.proofs.lemmas.Map.Keys.{IsStrictlyIncreasing-dedup, sorted_from_strictly_increasing}
use Rattle.std.proofs.lemmas.List.Sorted.{Contains-permutation, IsPermutation-sym}
use Rattle.std.proofs.lemmas.Map.Lookups.{btree_set_from_contains, exact_unsigned}
use Rattle.std.proofs.lemmas.Map.Views.{Contains-from_any, list_any-from_Contains}
use Rattle.lemmas.proofs.Orders.{is_equal}
use Rattle.lemmas.proofs.Tests.{or_false, or_twice, or_turned, or_moved}
use Rattle.viper_scope.specs.Listed.{ascending}

-- ---- one more key

module _ {K : Type 0} {R : K → K → Ordering} (o : IsTotalOrder R) where
  -- a query finds the keys that were there, and the new one
  any_insert : (q k : K) (ks : List K) → list_any (is_at (R q)) (insert_key R ks k) ≡ (is_at (R q) k || list_any (is_at (R q)) ks)
  any_insert q k [] = refl
  any_insert q k (x ∷ xs) = by (R k x) refl (any_insert q k xs)
    where
      by : (r : Ordering) → R k x ≡ r → list_any (is_at (R q)) (insert_key R xs k) ≡ (is_at (R q) k || list_any (is_at (R q)) xs) → list_any (is_at (R q)) (match_ordering r (k ∷ x ∷ xs) (x ∷ xs) (x ∷ insert_key R xs k)) ≡ (is_at (R q) k || (is_at (R q) x || list_any (is_at (R q)) xs))
      by Less at rest = refl
      by Equal at rest = or_twice (is_at (R q) x) (list_any (is_at (R q)) xs) ∙ ap (λ b. b || (is_at (R q) x || list_any (is_at (R q)) xs)) (sym (ap is_eq (alike_right o k x q at)))
      by Greater at rest = ap (λ b. is_at (R q) x || b) rest ∙ or_turned (is_at (R q) x) (is_at (R q) k) (list_any (is_at (R q)) xs)

  all_insert : (P : K → Type 0) (k : K) (ks : List K) → AllByRecursion P ks → P k → AllByRecursion P (insert_key R ks k)
  all_insert P k [] a p = (p, tt)
  all_insert P k (x ∷ xs) a p = by (R k x) (all_insert P k xs a.1 p)
    where
      by : (r : Ordering) → AllByRecursion P (insert_key R xs k) → AllByRecursion P (match_ordering r (k ∷ x ∷ xs) (x ∷ xs) (x ∷ insert_key R xs k))
      by Less rest = (p, a)
      by Equal rest = a
      by Greater rest = (a.0, rest)

  all_below : (k x : K) (xs : List K) → R k x ≡ Less → AllByRecursion (λ y. R x y ≡ Less) xs → AllByRecursion (λ y. R k y ≡ Less) xs
  all_below k x [] h a = tt
  all_below k x (y ∷ ys) h a = (o.trans k x y h a.0, all_below k x ys h a.1)

  sorted_insert : (k : K) (ks : List K) → IsStrictlySortedBy R ks → IsStrictlySortedBy R (insert_key R ks k)
  unfolding IsStrictlySortedBy
  sorted_insert k [] s = (tt, tt)
  sorted_insert k (x ∷ xs) s = by (R k x) refl (sorted_insert k xs s.1)
    where
      by : (r : Ordering) → R k x ≡ r → IsStrictlySortedBy R (insert_key R xs k) → IsStrictlySortedBy R (match_ordering r (k ∷ x ∷ xs) (x ∷ xs) (x ∷ insert_key R xs k))
      by Less at rest = ((at, all_below k x xs at s.0), s)
      by Equal at rest = s
      by Greater at rest = (all_insert (λ y. R x y ≡ Less) k xs s.0 (o.antisymm x k ∙ ap ordering_reverse at), rest)

  -- ---- all keys of a list

  any_fold : (q : K) (xs ks : List K) → list_any (is_at (R q)) (fold (insert_key R) ks xs) ≡ (list_any (is_at (R q)) xs || list_any (is_at (R q)) ks)
  any_fold q [] ks = refl
  any_fold q (x ∷ xs) ks =
      any_fold q xs (insert_key R ks x) ∙ ap (λ b. list_any (is_at (R q)) xs || b) (any_insert q x ks) ∙ or_moved (is_at (R q) x) (list_any (is_at (R q)) xs) (list_any (is_at (R q)) ks)

  sorted_fold : (xs ks : List K) → IsStrictlySortedBy R ks → IsStrictlySortedBy R (fold (insert_key R) ks xs)
  sorted_fold [] ks s = s
  sorted_fold (x ∷ xs) ks s = sorted_fold xs (insert_key R ks x) (sorted_insert x ks s)

-- ---- numbers

found : (q : ℕ) (ns : List ℕ) → list_any (is_at (nat_cmp q)) ns ≡ true → Contains ns q
found q ns h = Contains-from_any (λ x y is. exact_unsigned x y (is_equal (nat_cmp x y) is)) q ns h

there : (q : ℕ) (ns : List ℕ) → Contains ns q → list_any (is_at (nat_cmp q)) ns ≡ true
there q ns h = list_any-from_Contains (eq_by_cmp_equiv nat_cmp_total) q ns h

-- what a sort and `dedup` leave of a list
pub in_order : (listed sorted kept : List ℕ) → IsPermutation listed sorted → IsSorted nat_cmp sorted → kept ≡ dedup eqb sorted → kept ≡ ascending listed
unfolding IsStrictlySortedBy
in_order listed sorted kept moved rises is =
    let same : (q : ℕ) → list_any (is_at (nat_cmp q)) (dedup eqb sorted) ≡ list_any (is_at (nat_cmp q)) listed =
    λ q. both_ways (list_any (is_at (nat_cmp q)) (dedup eqb sorted)) (list_any (is_at (nat_cmp q)) listed)
    (λ h. there q listed (Contains-permutation sorted listed q (IsPermutation-sym listed sorted moved) (Contains-from_dedup eqb sorted q (found q (dedup eqb sorted) h))))
    (λ h. there q (dedup eqb sorted) (Contains-dedup_nat sorted q (Contains-permutation listed sorted q moved (found q listed h)))) in
    is ∙ btree_set_from_contains nat_cmp_total (record { keys = dedup eqb sorted }) (record { keys = ascending listed }) (sorted_from_strictly_increasing (dedup eqb sorted) (IsStrictlyIncreasing-dedup sorted rises)) (sorted_fold nat_cmp_total listed [] tt)
    (λ q. same q ∙ sym (or_false (list_any (is_at (nat_cmp q)) listed)) ∙ sym (any_fold nat_cmp_total q listed [])) exact_unsigned
