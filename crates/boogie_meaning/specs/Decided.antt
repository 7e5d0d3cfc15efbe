-- A quantifier is decided by finitely many keys, where its body has one end at all keys but those of a list: by the listed keys
-- of its type, and by that end, where a key of its type is not listed. (This stands here and not in proofs/ since the value of a
-- quantifier cites it.)
use Rattle.std.specs.Prelude.{◌≡◌, ◌≢◌, ℕ, ◌+◌, ◌≤◌, pos, Bool as Truth, true, false, not, ◌&&◌, ◌||◌, List, [], ◌∷◌, ◌⊎◌, if◌then◌else◌, unsigned_abs}
use Rattle.std.proofs.Common.{refl, sym, ap, ◌∙◌, arith, inl, inr}
use Rattle.std.specs.Bool.{Decides}
use Rattle.std.specs.Ordering.{is_eq}
use Rattle.std.specs.declared.cmp.Ordering.{Ordering}
use Rattle.std.specs.declared.cmp.Ordering.TheVariants.{Less, Equal, Greater}
use Rattle.vb_value.specs.Key.{key_cmp}
use Rattle.vb_value.proofs.KeyLaws.{same_from_key_cmp, key_cmp_self}
use Rattle.vb_value.specs.declared.keys.KeyPart.{KeyPart}
use Rattle.vb_value.specs.declared.keys.KeyPart.TheVariants as part
use Rattle.boogie_tree.specs.Value.{Key}
use Rattle.boogie_tree.specs.declared.exprs.BBase.{BBase}
use Rattle.boogie_tree.specs.declared.exprs.BBase.TheVariants as base
use Rattle.boogie_meaning.specs.Ends.{End, Is, Over, Wrong}
use Rattle.boogie_tree.specs.Values.{FitsKey, fits_key, base_of_part, same_base, are_keys}
use Rattle.boogie_meaning.specs.Forall.{IsTruth, is, IsForall, over, wrong, fails, holds}

-- ---- the search

-- of two ends the first in the order Over, Wrong, false, true
abbrev pub worst : End Truth → End Truth → End Truth
worst Over w = Over
worst Wrong Over = Over
worst Wrong (Is q) = Wrong
worst Wrong Wrong = Wrong
worst (Is p) Over = Over
worst (Is p) Wrong = Wrong
worst (Is p) (Is q) = Is (p && q)

-- the worst at the listed keys of these types
abbrev pub scan : List BBase → (Key → End Truth) → List Key → End Truth
scan us body [] = Is true
scan us body (k ∷ ks) = if fits_key us k then worst (body k) (scan us body ks) else scan us body ks

abbrev pub same_key : Key → Key → Truth
same_key j k = is_eq (key_cmp j k)

abbrev pub is_listed : List Key → Key → Truth
is_listed [] j = false
is_listed (k ∷ ks) j = same_key j k || is_listed ks j

-- Whether a key of these types passes a test that all large keys pass: where one of the types is int or Ref, one does. Where
-- one of the types is none of keys, there is no key.
abbrev pub finds : List BBase → (Key → Truth) → Truth
finds [] test = test []
finds (base.Int ∷ us) test = are_keys us
finds (base.Bool ∷ us) test = finds us (λ k. test (part.Bool false ∷ k)) || finds us (λ k. test (part.Bool true ∷ k))
finds (base.Ref ∷ us) test = are_keys us
finds (base.Real ∷ us) test = false
finds (base.Snap ∷ us) test = false

-- whether a key of these types is not listed
abbrev pub has_other : List BBase → List Key → Truth
has_other us ks = finds us (λ k. not (is_listed ks k))

-- the end of a quantifier whose body has the end `rest` at each key that is not listed
abbrev pub searched : List BBase → (Key → End Truth) → List Key → End Truth → End Truth
searched us body ks rest = worst (scan us body ks) (if has_other us ks then rest else Is true)

-- ---- quantifiers over parts of the keys

truth_not_over : (e : End Truth) → IsTruth e → e ≡ Over → ⊥
truth_not_over _ (is p) h = absurd (cc)

both : {K : Type 0} {P Q R : K → Type 0} → ((k : K) → P k → R k) → ((k : K) → Q k → R k) → (k : K) → P k ⊎ Q k → R k
both f g k (inl p) = f k p
both f g k (inr q) = g k q

module _ {K : Type 0} {body : K → End Truth} where
  not_over : {P : K → Type 0} → ((k : K) → P k → IsTruth (body k)) → (k : K) → P k → body k ≢ Over
  not_over h k p = truth_not_over (body k) (h k p)

  truths : {P : K → Type 0} → ((k : K) → P k → body k ≡ Is true) → (k : K) → P k → IsTruth (body k)
  truths h k p = rw (h k p) (is true)

  pub union : {P Q : K → Type 0} {v w : End Truth} → IsForall P body v → IsForall Q body w → IsForall (λ k. P k ⊎ Q k) body (worst v w)
  union (over k p e) h = over k (inl p) e
  union (wrong f k p e) (over j q d) = over j (inr q) d
  union (wrong f k p e) (wrong g j q d) = wrong (both f g) k (inl p) e
  union (wrong f k p e) (fails g j q d) = wrong (both f (not_over g)) k (inl p) e
  union (wrong f k p e) (holds g) = wrong (both f (not_over (truths g))) k (inl p) e
  union (fails f k p e) (over j q d) = over j (inr q) d
  union (fails f k p e) (wrong g j q d) = wrong (both (not_over f) g) j (inr q) d
  union (fails f k p e) (fails g j q d) = fails (both f g) k (inl p) e
  union (fails f k p e) (holds g) = fails (both f (truths g)) k (inl p) e
  union (holds f) (over j q d) = over j (inr q) d
  union (holds f) (wrong g j q d) = wrong (both (not_over (truths f)) g) j (inr q) d
  union (holds f) (fails g j q d) = fails (both (truths f) g) j (inr q) d
  union (holds f) (holds g) = holds (both f g)

  -- over the same keys, said in another way
  pub over_keys : {P Q : K → Type 0} {v : End Truth} → ((k : K) → P k → Q k) → ((k : K) → Q k → P k) → IsForall P body v → IsForall Q body v
  over_keys f g (over k p e) = over k (f k p) e
  over_keys f g (wrong h k p e) = wrong (λ j q. h j (g j q)) k (f k p) e
  over_keys f g (fails h k p e) = fails (λ j q. h j (g j q)) k (f k p) e
  over_keys f g (holds h) = holds (λ j q. h j (g j q))

  -- where the body has one end at some and at all
  pub alike : {P : K → Type 0} (v : End Truth) (k : K) → P k → ((j : K) → P j → body j ≡ v) → IsForall P body v
  alike Over k p h = over k p (h k p)
  alike Wrong k p h = wrong (λ j q e. let d : Wrong ≡ Over = sym (h j q) ∙ e in absurd (cc)) k p (h k p)
  alike (Is false) k p h = fails (λ j q. rw (h j q) (is false)) k p (h k p)
  alike (Is true) k p h = holds h

-- ---- keys

fits-both : (u : BBase) (us : List BBase) (a : KeyPart) (k : Key) (s t : Truth) → Decides s (base_of_part a ≡ u) → Decides t (FitsKey us k) → Decides (s && t) (FitsKey (u ∷ us) (a ∷ k))
fits-both u us a k true true d e = (λ h. (d.0 refl, e.0 refl), λ h. refl)
fits-both u us a k true false d e = (λ h. absurd (cc), λ h. e.1 h.1)
fits-both u us a k false t d e = (λ h. absurd (cc), λ h. d.1 h.0)

pub Decides-same_base : (u w : BBase) → Decides (same_base u w) (u ≡ w)
Decides-same_base base.Int base.Int = (λ h. refl, λ h. refl)
Decides-same_base base.Bool base.Bool = (λ h. refl, λ h. refl)
Decides-same_base base.Ref base.Ref = (λ h. refl, λ h. refl)
Decides-same_base base.Real base.Real = (λ h. refl, λ h. refl)
Decides-same_base base.Snap base.Snap = (λ h. refl, λ h. refl)
Decides-same_base _ _ = (λ h. absurd (cc), λ h. absurd (cc))

pub Decides-fits_key : (us : List BBase) (k : Key) → Decides (fits_key us k) (FitsKey us k)
Decides-fits_key [] [] = (λ h. tt, λ h. refl)
Decides-fits_key [] (a ∷ k) = (λ h. absurd (cc), λ h. absurd h)
Decides-fits_key (u ∷ us) [] = (λ h. absurd (cc), λ h. absurd h)
Decides-fits_key (u ∷ us) (a ∷ k) = fits-both u us a k _ _ (Decides-same_base (base_of_part a) u) (Decides-fits_key us k)

equal-from : (o : Ordering) → is_eq o ≡ true → o ≡ Equal
equal-from Less h = absurd (cc)
equal-from Equal h = refl
equal-from Greater h = absurd (cc)

same-from : (j k : Key) → same_key j k ≡ true → j ≡ k
same-from j k h = same_from_key_cmp j k (equal-from _ h)

pub listed-first : (k : Key) (ks : List Key) → is_listed (k ∷ ks) k ≡ true
listed-first k ks = rw (key_cmp_self k) refl

listed-cases : (j k : Key) (ks : List Key) (s : Truth) → same_key j k ≡ s → (s || is_listed ks j) ≡ true → (j ≡ k) ⊎ (is_listed ks j ≡ true)
listed-cases j k ks true e h = inl (same-from j k e)
listed-cases j k ks false e h = inr h

or-right : (s t : Truth) → t ≡ true → (s || t) ≡ true
or-right true t h = refl
or-right false t h = h

-- ---- the listed keys

abbrev Listed : List BBase → List Key → Key → Type 0
Listed us ks k = FitsKey us k × (is_listed ks k ≡ true)

abbrev Other : List BBase → List Key → Key → Type 0
Other us ks k = FitsKey us k × (is_listed ks k ≡ false)

module _ (us : List BBase) (body : Key → End Truth) where
  with-first : (k : Key) (ks : List Key) (v : End Truth) → FitsKey us k → IsForall (Listed us ks) body v → IsForall (Listed us (k ∷ ks)) body (worst (body k) v)
  with-first k ks v f h =
      let one : IsForall (λ j. j ≡ k) body (body k) = alike (body k) k refl (λ j e. ap body e) in
      over_keys to from (union one h)
    where
      to : (j : Key) → (j ≡ k) ⊎ Listed us ks j → Listed us (k ∷ ks) j
      to j (inl e) = rw e (f, listed-first k ks)
      to j (inr l) = (l.0, or-right (same_key j k) (is_listed ks j) l.1)

      here : (j : Key) → FitsKey us j → (j ≡ k) ⊎ (is_listed ks j ≡ true) → (j ≡ k) ⊎ Listed us ks j
      here j g (inl e) = inl e
      here j g (inr l) = inr (g, l)

      from : (j : Key) → Listed us (k ∷ ks) j → (j ≡ k) ⊎ Listed us ks j
      from j l = here j l.0 (listed-cases j k ks (same_key j k) refl l.1)

  without-first : (k : Key) (ks : List Key) (v : End Truth) → (FitsKey us k → ⊥) → IsForall (Listed us ks) body v → IsForall (Listed us (k ∷ ks)) body v
  without-first k ks v f h = over_keys (λ j l. (l.0, or-right (same_key j k) (is_listed ks j) l.1)) (λ j l. here j l.0 (listed-cases j k ks (same_key j k) refl l.1)) h
    where
      here : (j : Key) → FitsKey us j → (j ≡ k) ⊎ (is_listed ks j ≡ true) → Listed us ks j
      here j g (inl e) = absurd (f (rw (← e) g))
      here j g (inr l) = (g, l)

  scanned-step : (k : Key) (ks : List Key) (s : Truth) → Decides s (FitsKey us k) → IsForall (Listed us ks) body (scan us body ks) →
      IsForall (Listed us (k ∷ ks)) body (if s then worst (body k) (scan us body ks) else scan us body ks)
  scanned-step k ks true d h = with-first k ks (scan us body ks) (d.0 refl) h
  scanned-step k ks false d h = without-first k ks (scan us body ks) (λ f. let e : false ≡ true = d.1 f in absurd (cc)) h

  scanned : (ks : List Key) → IsForall (Listed us ks) body (scan us body ks)
  scanned [] = holds (λ k l. let e : false ≡ true = l.1 in absurd (cc))
  scanned (k ∷ ks) = scanned-step k ks (fits_key us k) (Decides-fits_key us k) (scanned ks)

-- ---- the other keys

-- the numbers of a key, and of all keys of a list, together
abbrev pub part_size : KeyPart → ℕ
part_size (part.Int n) = unsigned_abs n
part_size (part.Bool p) = 0
part_size (part.Ref r) = r

abbrev pub size : Key → ℕ
size [] = 0
size (a ∷ k) = part_size a + size k

abbrev pub total : List Key → ℕ
total [] = 0
total (k ∷ ks) = size k + total ks

small-step : (j k : Key) (ks : List Key) → (j ≡ k) ⊎ (is_listed ks j ≡ true) → (is_listed ks j ≡ true → size j ≤ total ks) → size j ≤ size k + total ks
small-step j k ks (inl e) f = rw e (omega arith)
small-step j k ks (inr l) f = let h = f l in omega (arith, h)

listed-small : (j : Key) (ks : List Key) → is_listed ks j ≡ true → size j ≤ total ks
listed-small j [] h = absurd (cc)
listed-small j (k ∷ ks) h = small-step j k ks (listed-cases j k ks (same_key j k) refl h) (listed-small j ks)

-- so a larger one is not listed
pub large-step : (j : Key) (ks : List Key) (s : Truth) → is_listed ks j ≡ s → total ks + 1 ≤ size j → not s ≡ true
large-step j ks true e h = let l = listed-small j ks e in absurd (omega (arith, h, l))
large-step j ks false e h = refl

pub sample : (us : List BBase) → are_keys us ≡ true → (k : Key) × FitsKey us k
sample [] h = ([], tt)
sample (base.Int ∷ us) h = let s = sample us h in (part.Int (pos 0) ∷ s.0, (refl, s.1))
sample (base.Bool ∷ us) h = let s = sample us h in (part.Bool false ∷ s.0, (refl, s.1))
sample (base.Ref ∷ us) h = let s = sample us h in (part.Ref 0 ∷ s.0, (refl, s.1))
sample (base.Real ∷ us) h = absurd (cc)
sample (base.Snap ∷ us) h = absurd (cc)

uninhabited : (us : List BBase) (k : Key) → are_keys us ≡ false → FitsKey us k → ⊥
uninhabited [] k h f = absurd (cc)
uninhabited (u ∷ us) [] h f = f
uninhabited (base.Int ∷ us) (a ∷ k) h f = uninhabited us k h f.1
uninhabited (base.Bool ∷ us) (a ∷ k) h f = uninhabited us k h f.1
uninhabited (base.Ref ∷ us) (a ∷ k) h f = uninhabited us k h f.1
uninhabited (base.Real ∷ us) (part.Int n ∷ k) h f = let e : base.Int ≡ base.Real = f.0 in absurd (cc)
uninhabited (base.Real ∷ us) (part.Bool n ∷ k) h f = let e : base.Bool ≡ base.Real = f.0 in absurd (cc)
uninhabited (base.Real ∷ us) (part.Ref n ∷ k) h f = let e : base.Ref ≡ base.Real = f.0 in absurd (cc)
uninhabited (base.Snap ∷ us) (part.Int n ∷ k) h f = let e : base.Int ≡ base.Snap = f.0 in absurd (cc)
uninhabited (base.Snap ∷ us) (part.Bool n ∷ k) h f = let e : base.Bool ≡ base.Snap = f.0 in absurd (cc)
uninhabited (base.Snap ∷ us) (part.Ref n ∷ k) h f = let e : base.Ref ≡ base.Snap = f.0 in absurd (cc)

abbrev Passes : List BBase → (Key → Truth) → Type 0
Passes us test = (k : Key) × FitsKey us k × (test k ≡ true)

passes-either : (us : List BBase) (test : Key → Truth) (s t : Truth) → (s ≡ true → Passes us (λ k. test (part.Bool false ∷ k))) →
    (t ≡ true → Passes us (λ k. test (part.Bool true ∷ k))) → (s || t) ≡ true → Passes (base.Bool ∷ us) test
passes-either us test true t f g h = let p = f refl in (part.Bool false ∷ p.0, (refl, p.1), p.2)
passes-either us test false t f g h = let p = g h in (part.Bool true ∷ p.0, (refl, p.1), p.2)

-- where all large keys pass, the search finds one that passes, if there is one
found_key : (us : List BBase) (test : Key → Truth) (n : ℕ) → ((k : Key) → n ≤ size k → test k ≡ true) → finds us test ≡ true → Passes us test
found_key [] test n large h = ([], tt, h)
found_key (base.Int ∷ us) test n large h = let s = sample us h in (part.Int (pos n) ∷ s.0, (refl, s.1), large (part.Int (pos n) ∷ s.0) (omega arith))
found_key (base.Bool ∷ us) test n large h =
    passes-either us test _ _ (found_key us (λ k. test (part.Bool false ∷ k)) n (λ k l. large (part.Bool false ∷ k) (omega (arith, l))))
    (found_key us (λ k. test (part.Bool true ∷ k)) n (λ k l. large (part.Bool true ∷ k) (omega (arith, l)))) h
found_key (base.Ref ∷ us) test n large h = let s = sample us h in (part.Ref n ∷ s.0, (refl, s.1), large (part.Ref n ∷ s.0) (omega arith))
found_key (base.Real ∷ us) test n large h = absurd (cc)
found_key (base.Snap ∷ us) test n large h = absurd (cc)

or-false : (s t : Truth) → (s || t) ≡ false → (s ≡ false) × (t ≡ false)
or-false true t h = absurd (cc)
or-false false t h = (refl, h)

none_found : (us : List BBase) (test : Key → Truth) → finds us test ≡ false → (k : Key) → FitsKey us k → test k ≡ false
none_found [] test h [] f = h
none_found [] test h (a ∷ k) f = absurd f
none_found (u ∷ us) test h [] f = absurd f
none_found (base.Int ∷ us) test h (a ∷ k) f = absurd (uninhabited us k h f.1)
none_found (base.Bool ∷ us) test h (part.Int n ∷ k) f = let e : base.Int ≡ base.Bool = f.0 in absurd (cc)
none_found (base.Bool ∷ us) test h (part.Bool false ∷ k) f = none_found us (λ k. test (part.Bool false ∷ k)) (or-false _ _ h).0 k f.1
none_found (base.Bool ∷ us) test h (part.Bool true ∷ k) f = none_found us (λ k. test (part.Bool true ∷ k)) (or-false _ _ h).1 k f.1
none_found (base.Bool ∷ us) test h (part.Ref n ∷ k) f = let e : base.Ref ≡ base.Bool = f.0 in absurd (cc)
none_found (base.Ref ∷ us) test h (a ∷ k) f = absurd (uninhabited us k h f.1)
none_found (base.Real ∷ us) test h (a ∷ k) f = absurd (uninhabited (base.Real ∷ us) (a ∷ k) refl f)
none_found (base.Snap ∷ us) test h (a ∷ k) f = absurd (uninhabited (base.Snap ∷ us) (a ∷ k) refl f)

not-true : (s : Truth) → not s ≡ true → s ≡ false
not-true true h = absurd (cc)
not-true false h = refl

not-false : (s : Truth) → not s ≡ false → s ≡ true
not-false true h = refl
not-false false h = absurd (cc)

-- ---- the law

module _ (us : List BBase) (body : Key → End Truth) (ks : List Key) (rest : End Truth) (alone : (k : Key) → FitsKey us k → is_listed ks k ≡ false → body k ≡ rest) where
  others : (s : Truth) → has_other us ks ≡ s → IsForall (Other us ks) body (if s then rest else Is true)
  others true h =
      let p = found_key us (λ k. not (is_listed ks k)) (total ks + 1) (λ k l. large-step k ks (is_listed ks k) refl l) h in
      alike rest p.0 (p.1, not-true (is_listed ks p.0) p.2) (λ k o. alone k o.0 o.1)
  others false h =
      holds (λ k o. let l : is_listed ks k ≡ true = not-false (is_listed ks k) (none_found us (λ k. not (is_listed ks k)) h k o.0) in let e : true ≡ false = sym l ∙ o.1 in absurd (cc))

  joined : (k : Key) (s : Truth) → is_listed ks k ≡ s → FitsKey us k → Listed us ks k ⊎ Other us ks k
  joined k true e f = inl (f, e)
  joined k false e f = inr (f, e)

  parts : (k : Key) → Listed us ks k ⊎ Other us ks k → FitsKey us k
  parts k (inl l) = l.0
  parts k (inr o) = o.0

  pub decided : IsForall (FitsKey us) body (searched us body ks rest)
  decided = over_keys parts (λ k f. joined k (is_listed ks k) refl f) (union (scanned us body ks) (others (has_other us ks) refl))
