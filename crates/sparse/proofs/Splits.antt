-- What is looked up, put and taken away among entries on both sides of one, where the keys ascend.
use Rattle.std.proofs.Common.{◌≡◌, ℕ, zero, suc, ◌+◌, ◌<◌, Bool, true, false, cond, slice_get, List, [], ◌∷◌, ◌++◌, length, refl, ap, ◌∙◌, arith}
use Rattle.std.specs.List.{AllByRecursion}
use Rattle.std.specs.List.Sorted.{IsStrictlySortedBy}
use Rattle.std.specs.Map.{keys_of, lookup, remove_entry}
use Rattle.std.specs.BTreeMap.{is_at}
use Rattle.std.specs.Cmp.{IsTotalOrder}
use Rattle.std.specs.Ordering.{is_eq, match_ordering, ordering_reverse}
use Rattle.std.specs.declared.cmp.Ordering.{Ordering}
use Rattle.std.specs.declared.cmp.Ordering.TheVariants.{Less, Equal, Greater}
use Rattle.std.specs.declared.option.Option.TheVariants.{Some, None}
use Rattle.std.proofs.lemmas.Cmp.{alike_right}
use Rattle.sparse.specs.Tree.{put_entry}

module _ {K V : Type 0} (P : K → Type 0) where
  all_front : (l m : List (K × V)) → AllByRecursion P (keys_of (l ++ m)) → AllByRecursion P (keys_of l)
  all_front [] m a = tt
  all_front (x ∷ l) m a = (a.0, all_front l m a.1)

  all_at : (l : List (K × V)) (e : K × V) (r : List (K × V)) → AllByRecursion P (keys_of (l ++ e ∷ r)) → P e.0
  all_at [] e r a = a.0
  all_at (x ∷ l) e r a = all_at l e r a.1

module _ {K V : Type 0} (R : K → K → Ordering) where
  -- both sides ascend
  pub sorted_left : (l : List (K × V)) (e : K × V) (r : List (K × V)) → IsStrictlySortedBy R (keys_of (l ++ e ∷ r)) → IsStrictlySortedBy R (keys_of l)
  unfolding IsStrictlySortedBy
  sorted_left [] e r s = tt
  sorted_left (x ∷ l) e r s = (all_front (λ y. R x.0 y ≡ Less) l (e ∷ r) s.0, sorted_left l e r s.1)

  pub sorted_right : (l : List (K × V)) (e : K × V) (r : List (K × V)) → IsStrictlySortedBy R (keys_of (l ++ e ∷ r)) → IsStrictlySortedBy R (keys_of r)
  unfolding IsStrictlySortedBy
  sorted_right [] e r s = s.1
  sorted_right (x ∷ l) e r s = sorted_right l e r s.1

  pub below_middle : (l : List (K × V)) (e : K × V) (r : List (K × V)) → IsStrictlySortedBy R (keys_of (l ++ e ∷ r)) → AllByRecursion (λ q. R q e.0 ≡ Less) (keys_of l)
  unfolding IsStrictlySortedBy
  below_middle [] e r s = tt
  below_middle (x ∷ l) e r s = (all_at (λ y. R x.0 y ≡ Less) l e r s.0, below_middle l e r s.1)

  pub above_middle : (l : List (K × V)) (e : K × V) (r : List (K × V)) → IsStrictlySortedBy R (keys_of (l ++ e ∷ r)) → AllByRecursion (λ q. R e.0 q ≡ Less) (keys_of r)
  unfolding IsStrictlySortedBy
  above_middle [] e r s = s.0
  above_middle (x ∷ l) e r s = above_middle l e r s.1

module _ {K : Type 0} {R : K → K → Ordering} (o : IsTotalOrder R) where
  -- an answer the other way round
  pub turned : (a b : K) (r : Ordering) → R a b ≡ r → R b a ≡ ordering_reverse r
  turned a b r h = o.antisymm b a ∙ ap ordering_reverse h

  -- a key that is equal to one is above those below it, and so is a key above it
  above-Equal : (k m : K) (ks : List K) → R k m ≡ Equal → AllByRecursion (λ q. R q m ≡ Less) ks → AllByRecursion (λ q. R k q ≡ Greater) ks
  above-Equal k m [] h a = tt
  above-Equal k m (q ∷ ks) h a = (turned q k Less (alike_right o k m q h ∙ a.0), above-Equal k m ks h a.1)

  above-Greater : (k m : K) (ks : List K) → R k m ≡ Greater → AllByRecursion (λ q. R q m ≡ Less) ks → AllByRecursion (λ q. R k q ≡ Greater) ks
  above-Greater k m [] h a = tt
  above-Greater k m (q ∷ ks) h a = (turned q k Less (o.trans q m k a.0 (turned k m Greater h)), above-Greater k m ks h a.1)

  -- a key below one is below those above it
  below-Less : (k m : K) (ks : List K) → R k m ≡ Less → AllByRecursion (λ q. R m q ≡ Less) ks → AllByRecursion (λ q. R k q ≡ Less) ks
  below-Less k m [] h a = tt
  below-Less k m (q ∷ ks) h a = (o.trans k m q h a.0, below-Less k m ks h a.1)

module _ {K V : Type 0} (R : K → K → Ordering) (k : K) where
  lookup-past : (l m : List (K × V)) → AllByRecursion (λ q. R k q ≡ Greater) (keys_of l) → lookup (is_at (R k)) (l ++ m) ≡ lookup (is_at (R k)) m
  lookup-past [] m a = refl
  lookup-past (x ∷ l) m a = rw a.0 (lookup-past l m a.1)

  lookup-below : (r : List (K × V)) → AllByRecursion (λ q. R k q ≡ Less) (keys_of r) → lookup (is_at (R k)) r ≡ None
  lookup-below [] a = refl
  lookup-below (x ∷ r) a = rw a.0 (lookup-below r a.1)

  lookup-front : (l r : List (K × V)) → AllByRecursion (λ q. R k q ≡ Less) (keys_of r) → lookup (is_at (R k)) (l ++ r) ≡ lookup (is_at (R k)) l
  lookup-front [] r a = lookup-below r a
  lookup-front (x ∷ l) r a = ap (λ t. cond (is_eq (R k x.0)) (Some x.1) t) (lookup-front l r a)

  remove_entry-past : (l m : List (K × V)) → AllByRecursion (λ q. R k q ≡ Greater) (keys_of l) → remove_entry (is_at (R k)) (l ++ m) ≡ l ++ remove_entry (is_at (R k)) m
  remove_entry-past [] m a = refl
  remove_entry-past (x ∷ l) m a = rw a.0 (ap (λ t. x ∷ t) (remove_entry-past l m a.1))

  remove_entry-below : (r : List (K × V)) → AllByRecursion (λ q. R k q ≡ Less) (keys_of r) → remove_entry (is_at (R k)) r ≡ r
  remove_entry-below [] a = refl
  remove_entry-below (x ∷ r) a = rw a.0 (ap (λ t. x ∷ t) (remove_entry-below r a.1))

  cond-append : (b : Bool) (x : K × V) (l m r : List (K × V)) → cond b (l ++ r) (x ∷ (m ++ r)) ≡ cond b l (x ∷ m) ++ r
  cond-append true x l m r = refl
  cond-append false x l m r = refl

  remove_entry-front : (l r : List (K × V)) → AllByRecursion (λ q. R k q ≡ Less) (keys_of r) → remove_entry (is_at (R k)) (l ++ r) ≡ remove_entry (is_at (R k)) l ++ r
  remove_entry-front [] r a = remove_entry-below r a
  remove_entry-front (x ∷ l) r a =
      ap (λ t. cond (is_eq (R k x.0)) (l ++ r) (x ∷ t)) (remove_entry-front l r a)
      ∙ cond-append (is_eq (R k x.0)) x l (remove_entry (is_at (R k)) l) r

module _ {K V : Type 0} (R : K → K → Ordering) (p : K × V) where
  put_entry-past : (l m : List (K × V)) → AllByRecursion (λ q. R p.0 q ≡ Greater) (keys_of l) → put_entry R (l ++ m) p ≡ l ++ put_entry R m p
  put_entry-past [] m a = refl
  put_entry-past (x ∷ l) m a = rw a.0 (ap (λ t. x ∷ t) (put_entry-past l m a.1))

  match-append : (o : Ordering) (x : K × V) (l m r : List (K × V)) → match_ordering o (p ∷ x ∷ (l ++ r)) (p ∷ (l ++ r)) (x ∷ (m ++ r)) ≡ match_ordering o (p ∷ x ∷ l) (p ∷ l) (x ∷ m) ++ r
  match-append Less x l m r = refl
  match-append Equal x l m r = refl
  match-append Greater x l m r = refl

  put_entry-front : (l : List (K × V)) (e : K × V) (r : List (K × V)) → R p.0 e.0 ≡ Less → put_entry R (l ++ e ∷ r) p ≡ put_entry R l p ++ e ∷ r
  put_entry-front [] e r h = rw h refl
  put_entry-front (x ∷ l) e r h =
      ap (λ t. match_ordering (R p.0 x.0) (p ∷ x ∷ (l ++ e ∷ r)) (p ∷ (l ++ e ∷ r)) (x ∷ t)) (put_entry-front l e r h)
      ∙ match-append (R p.0 x.0) x l (put_entry R l p) (e ∷ r)

-- where the keys ascend, what happens at a key happens on its side of the entry
module _ {K V : Type 0} {R : K → K → Ordering} (o : IsTotalOrder R) (k : K) (l : List (K × V)) (e : K × V) (r : List (K × V)) (s : IsStrictlySortedBy R (keys_of (l ++ e ∷ r))) where
  pub lookup-Less : R k e.0 ≡ Less → lookup (is_at (R k)) (l ++ e ∷ r) ≡ lookup (is_at (R k)) l
  lookup-Less h = lookup-front R k l (e ∷ r) (h, below-Less o k e.0 (keys_of r) h (above_middle R l e r s))

  pub lookup-Equal : R k e.0 ≡ Equal → lookup (is_at (R k)) (l ++ e ∷ r) ≡ Some e.1
  lookup-Equal h = lookup-past R k l (e ∷ r) (above-Equal o k e.0 (keys_of l) h (below_middle R l e r s)) ∙ (rw h refl)

  pub lookup-Greater : R k e.0 ≡ Greater → lookup (is_at (R k)) (l ++ e ∷ r) ≡ lookup (is_at (R k)) r
  lookup-Greater h = lookup-past R k l (e ∷ r) (above-Greater o k e.0 (keys_of l) h (below_middle R l e r s)) ∙ (rw h refl)

  pub remove_entry-Less : R k e.0 ≡ Less → remove_entry (is_at (R k)) (l ++ e ∷ r) ≡ remove_entry (is_at (R k)) l ++ e ∷ r
  remove_entry-Less h = remove_entry-front R k l (e ∷ r) (h, below-Less o k e.0 (keys_of r) h (above_middle R l e r s))

  pub remove_entry-Equal : R k e.0 ≡ Equal → remove_entry (is_at (R k)) (l ++ e ∷ r) ≡ l ++ r
  remove_entry-Equal h = remove_entry-past R k l (e ∷ r) (above-Equal o k e.0 (keys_of l) h (below_middle R l e r s)) ∙ (rw h refl)

  pub remove_entry-Greater : R k e.0 ≡ Greater → remove_entry (is_at (R k)) (l ++ e ∷ r) ≡ l ++ e ∷ remove_entry (is_at (R k)) r
  remove_entry-Greater h = remove_entry-past R k l (e ∷ r) (above-Greater o k e.0 (keys_of l) h (below_middle R l e r s)) ∙ (rw h refl)

  pub put_entry-Less : (v : V) → R k e.0 ≡ Less → put_entry R (l ++ e ∷ r) (k, v) ≡ put_entry R l (k, v) ++ e ∷ r
  put_entry-Less v h = put_entry-front R (k, v) l e r h

  pub put_entry-Equal : (v : V) → R k e.0 ≡ Equal → put_entry R (l ++ e ∷ r) (k, v) ≡ l ++ (k, v) ∷ r
  put_entry-Equal v h = put_entry-past R (k, v) l (e ∷ r) (above-Equal o k e.0 (keys_of l) h (below_middle R l e r s)) ∙ (rw h refl)

  pub put_entry-Greater : (v : V) → R k e.0 ≡ Greater → put_entry R (l ++ e ∷ r) (k, v) ≡ l ++ e ∷ put_entry R r (k, v)
  put_entry-Greater v h = put_entry-past R (k, v) l (e ∷ r) (above-Greater o k e.0 (keys_of l) h (below_middle R l e r s)) ∙ (rw h refl)

module _ {K V : Type 0} where
  -- the key at an index
  pub key-left : (l m : List (K × V)) (i : ℕ) → i < length l → slice_get (keys_of (l ++ m)) i ≡ slice_get (keys_of l) i
  key-left [] m i b = absurd (omega arith)
  key-left (x ∷ l) m zero b = refl
  key-left (x ∷ l) m (suc i) b = key-left l m i (omega arith)

  pub key-middle : (l : List (K × V)) (e : K × V) (r : List (K × V)) → slice_get (keys_of (l ++ e ∷ r)) (length l) ≡ Some e.0
  key-middle [] e r = refl
  key-middle (x ∷ l) e r = key-middle l e r

  pub key-right : (l : List (K × V)) (e : K × V) (r : List (K × V)) (n i : ℕ) → n ≡ length l + 1 + i → slice_get (keys_of (l ++ e ∷ r)) n ≡ slice_get (keys_of r) i
  key-right [] e r n i h =
      let is : n ≡ suc i = omega arith in
      rw is refl
  key-right (x ∷ l) e r zero i h = absurd (omega arith)
  key-right (x ∷ l) e r (suc n) i h = key-right l e r n i (omega arith)
