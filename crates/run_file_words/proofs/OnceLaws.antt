-- What is named once, and the set of what was named.
use Rattle.std.proofs.Common.{◌≡◌, ◌≢◌, ◌∙◌, ◌<◌, ◌||◌, ℕ, zero, suc, Bool, true, false, List, [], ◌∷◌, length, get_or, AllPairs, refl, sym, ap, arith}
use Rattle.std.specs.BTreeMap.{is_at}
use Rattle.std.specs.BTreeSet.{insert_key}
use Rattle.std.specs.Cmp.{IsTotalOrder, nat_cmp_is}
use Rattle.std.specs.Ordering.{match_ordering, is_eq, nat_cmp}
use Rattle.std.specs.declared.cmp.Ordering.{Ordering}
use Rattle.std.specs.declared.cmp.Ordering.TheVariants.{Less, Equal, Greater}
use Rattle.std.proofs.lemmas.Cmp.{tied_itself}
use Rattle.std.proofs.lemmas.Bool.{or_from}
use Rattle.lemmas.proofs.Orders.{is_equal}
use Rattle.lemmas.proofs.Tests.{not_both as both_tests}
use Rattle.run_file_words.specs.Machine.{among}

or_false : (a b : Bool) → a || b ≡ false → (a ≡ false) × (b ≡ false)
or_false true b e = absurd cc
or_false false b e = (refl, e)

pub nat_self : (n : ℕ) → nat_cmp n n ≡ Equal
nat_self n = sym (nat_cmp_is n n Equal refl)

pub less_itself : {K : Type 0} {cmp : K → K → Ordering} → IsTotalOrder cmp → (k q : K) → cmp k q ≡ Less → k ≢ q
less_itself {cmp = cmp} o k q less same = not_both (sym (tied_itself o k) ∙ (ap (cmp k) same ∙ less)) where
  not_both : Equal ≡ Less → ⊥
  not_both e = cc

-- each is new where those in front of it are put into the set
abbrev pub FreshOnce : {A : Type 0} → (A → A → Ordering) → List A → List A → Type 0
FreshOnce cmp set [] = Unit {0}
FreshOnce cmp set (n ∷ ns) = (among cmp set n ≡ false) × FreshOnce cmp (insert_key cmp set n) ns

abbrev Differ : {A : Type 0} → List A → Type 0
Differ ns = AllPairs (λ a b. a ≢ b) ns

tail_differs : {A : Type 0} (n : A) (ns : List A) → Differ (n ∷ ns) → Differ ns
tail_differs n ns h i j d below within = h (suc i) (suc j) d (omega (arith, below)) (omega (arith, within))

head_differs : {A : Type 0} (n : A) (ns : List A) → Differ (n ∷ ns) → (k : ℕ) (d : A) → k < length ns → get_or ns k d ≢ n
head_differs n ns h k d within e = h 0 (suc k) d (omega arith) (omega (arith, within)) (sym e)

module _ {A : Type 0} (cmp : A → A → Ordering) (same : (x y : A) → cmp x y ≡ Equal → x ≡ y) (self : (x : A) → cmp x x ≡ Equal) where
  other : (m k : A) → m ≢ k → is_at (cmp m) k ≡ false
  other m k ne = by_test (is_at (cmp m) k) (λ e. ne (same m k (is_equal (cmp m k) e))) where
    by_test : (b : Bool) → (b ≡ true → ⊥) → b ≡ false
    by_test true h = absurd (h refl)
    by_test false h = refl

  not_other : (m k : A) → is_at (cmp m) k ≡ false → m ≢ k
  not_other m k e equal = both_tests e (ap is_eq (ap (cmp m) (sym equal) ∙ self m))

  not_inserted_by : (x : A) (xs : List A) (k m : A) → m ≢ k → among cmp (x ∷ xs) m ≡ false →
      (among cmp xs m ≡ false → among cmp (insert_key cmp xs k) m ≡ false) → (o : Ordering) →
      among cmp (match_ordering o (k ∷ x ∷ xs) (x ∷ xs) (x ∷ insert_key cmp xs k)) m ≡ false
  not_inserted_by x xs k m ne h rec Less = or_from _ _ (other m k ne) h
  not_inserted_by x xs k m ne h rec Equal = h
  not_inserted_by x xs k m ne h rec Greater = let parts = or_false (is_at (cmp m) x) _ h in or_from _ _ parts.0 (rec parts.1)

  -- what is not there, and is not put there, is not there afterwards
  not_inserted : (set : List A) (k m : A) → m ≢ k → among cmp set m ≡ false → among cmp (insert_key cmp set k) m ≡ false
  not_inserted [] k m ne h = or_from _ _ (other m k ne) refl
  not_inserted (x ∷ xs) k m ne h = not_inserted_by x xs k m ne h (not_inserted xs k m ne) (cmp k x)

  stays_out_by : (x : A) (xs : List A) (k m : A) → (among cmp (insert_key cmp xs k) m ≡ false → (m ≢ k) × (among cmp xs m ≡ false)) →
      (o : Ordering) → cmp k x ≡ o → among cmp (match_ordering o (k ∷ x ∷ xs) (x ∷ xs) (x ∷ insert_key cmp xs k)) m ≡ false → (m ≢ k) × (among cmp (x ∷ xs) m ≡ false)
  stays_out_by x xs k m rec Less is h = let parts = or_false (is_at (cmp m) k) _ h in (not_other m k parts.0, parts.1)
  stays_out_by x xs k m rec Equal is h =
      let equal = same k x is in
      let parts = or_false (is_at (cmp m) x) _ h in
      (λ e. not_other m x parts.0 (e ∙ equal), h)
  stays_out_by x xs k m rec Greater is h =
      let parts = or_false (is_at (cmp m) x) _ h in
      let more = rec parts.1 in
      (more.0, or_from _ _ parts.0 more.1)

  -- and back
  stays_out : (set : List A) (k m : A) → among cmp (insert_key cmp set k) m ≡ false → (m ≢ k) × (among cmp set m ≡ false)
  stays_out [] k m h = (not_other m k (or_false _ _ h).0, refl)
  stays_out (x ∷ xs) k m h = stays_out_by x xs k m (stays_out xs k m) (cmp k x) refl h

  fresh_from : (set ns : List A) → Differ ns → ((k : ℕ) (d : A) → k < length ns → among cmp set (get_or ns k d) ≡ false) → FreshOnce cmp set ns
  fresh_from set [] differ out = tt
  fresh_from set (n ∷ ns) differ out = (
    out 0 n (omega arith),
    fresh_from (insert_key cmp set n) ns (tail_differs n ns differ)
        (λ k d within. not_inserted set n (get_or ns k d) (head_differs n ns differ k d within) (out (suc k) d (omega (arith, within)))),
  )

  pub once_is_fresh : (ns : List A) → Differ ns → FreshOnce cmp [] ns
  once_is_fresh ns differ = fresh_from [] ns differ (λ k d within. refl)

  out_of_set : (set ns : List A) → FreshOnce cmp set ns → (k : ℕ) (d : A) → k < length ns → among cmp set (get_or ns k d) ≡ false
  out_of_set set [] h k d within = absurd (omega (arith, within))
  out_of_set set (n ∷ ns) h zero d within = h.0
  out_of_set set (n ∷ ns) h (suc k) d within = (stays_out set n (get_or ns k d) (out_of_set (insert_key cmp set n) ns h.1 k d (omega (arith, within)))).1

  pub fresh_differs : (set ns : List A) → FreshOnce cmp set ns → Differ ns
  fresh_differs set [] h i j d below within = absurd (omega (arith, within))
  fresh_differs set (n ∷ ns) h zero zero d below within = absurd (omega (arith, below))
  fresh_differs set (n ∷ ns) h zero (suc j) d below within = λ e.
      (stays_out set n (get_or ns j d) (out_of_set (insert_key cmp set n) ns h.1 j d (omega (arith, within)))).0 (sym e)
  fresh_differs set (n ∷ ns) h (suc i) zero d below within = absurd (omega (arith, below))
  fresh_differs set (n ∷ ns) h (suc i) (suc j) d below within = fresh_differs (insert_key cmp set n) ns h.1 i j d (omega (arith, below)) (omega (arith, within))
