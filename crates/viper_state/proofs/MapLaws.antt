-- The maps of a state are kept exactly: to change one, or to copy it, is to do so with its plain data.
use Rattle.std.proofs.Common.{◌≡◌, ℕ, zero, suc, Bool, List, [], ◌∷◌, Option, Some, None, Result, Ok, Err, OnOk, slice_get, slice_set, map, refl, sym, ap, ◌∙◌, subst}
use Rattle.std.specs.List.{AllZip}
use Rattle.std.specs.Option.{option_map}
use Rattle.std.proofs.lemmas.List.{map-set}
use Rattle.std.proofs.lemmas.Option.{slice_get-map}
use Rattle.std.specs.Cmp.{IsTotalOrder, IsEquivalence}
use Rattle.std.specs.Ordering.{nat_cmp, on}
use Rattle.std.specs.declared.cmp.Ordering.{Ordering}
use Rattle.std.proofs.lemmas.Cmp.{nat_cmp_total}
use Rattle.std.proofs.lemmas.Map.Lookups.{exact_unsigned}
use Rattle.sparse.specs.Map.{Map, get, set, IsReduced, IsSame, ClonesAreEqual}
use Rattle.sparse.specs.Meaning.{IsExact}
use Rattle.sparse.proofs.MapLaws.{map_from_same, IsSame-refl}
use Rattle.sparse.proofs.MeaningLaws.{IsReduced-meaning_of, get-meaning_of, set-meaning_of, meaning_of-same, meaning_of-set, IsMeaning-on, IsMeaning-itself, ClonesAreEqual-from_meaning}
use Rattle.vb_value.specs.Fraction.{Fraction}
use Rattle.vb_value.specs.Content.{same_content}
use Rattle.vb_value.specs.View.{content_of}
use Rattle.vb_value.specs.Value.{value_eq, fraction_eq}
use Rattle.vb_value.specs.Key.{key_cmp}
use Rattle.vb_value.specs.KeyOrder.{key_cmp_total}
use Rattle.vb_value.specs.Equality.{Decides-value_eq, Decides-fraction_eq, Decides-same_content}
use Rattle.vb_value.proofs.KeyLaws.{same_from_key_cmp}
use Rattle.vb_value.specs.declared.contents.Content.{Content}
use Rattle.vb_value.specs.declared.values.Value.{Value}
use Rattle.vb_value.specs.declared.values.Value.TheVariants.{Int, Bool as Truth, Ref, Perm}
use Rattle.vb_value.specs.contracts.values.ValuePartialEq.TheImpl as values
use Rattle.vb_value.specs.contracts.fractions.FracPartialEq.TheImpl as fractions
use Rattle.viper_state.specs.State.{Key, found_at, changed, changed_at}
use Rattle.viper_state.specs.View.{contents_of}

-- the derived tests of equality are those of the definitions
fractions_alike : (p q : Fraction) → fractions.ghosts.eq p q ≡ fraction_eq p q
fractions_alike p q = refl

values_alike : (v w : Value) → values.ghosts.eq v w ≡ value_eq v w
values_alike (Int a) (Int b) = refl
values_alike (Truth a) (Truth b) = refl
values_alike (Ref a) (Ref b) = refl
values_alike (Perm a) (Perm b) = refl
values_alike _ _ = refl

pub value_test : values.ghosts.eq ≡ value_eq
value_test = λ i v w. values_alike v w i

pub fraction_test : fractions.ghosts.eq ≡ fraction_eq
fraction_test = λ i p q. fractions_alike p q i

-- keys and values are told apart exactly
pub exact_values : IsExact nat_cmp value_eq
exact_values = record { total = nat_cmp_total; keys = exact_unsigned; values = Decides-value_eq }

pub exact_masks : IsExact nat_cmp fraction_eq
exact_masks = record { total = nat_cmp_total; keys = exact_unsigned; values = Decides-fraction_eq }

pub exact_amounts : IsExact key_cmp fraction_eq
exact_amounts = record { total = key_cmp_total; keys = same_from_key_cmp; values = Decides-fraction_eq }

pub exact_contents : IsExact key_cmp same_content
exact_contents = record { total = key_cmp_total; keys = same_from_key_cmp; values = Decides-same_content }

-- what `set` leaves is the change of what was there
pub changes : {K V : Type 0} {cmp : K → K → Ordering} {eq same : V → V → Bool} → eq ≡ same → IsExact cmp same → (m n : Map K V) (k : K) (v : V) →
    IsSame cmp eq (set cmp eq m k v) n → n ≡ set cmp same m k v
changes {cmp = cmp} {same = same} is exact m n k v =
    subst (λ q. IsSame cmp q (set cmp q m k v) n → n ≡ set cmp same m k v) (sym is) (λ h. sym (map_from_same exact (set cmp same m k v) n h))

-- a copy is equal
pub copies : {K V : Type 0} {cmp : K → K → Ordering} {eq same : V → V → Bool} → eq ≡ same → IsExact cmp same → (m n : Map K V) → IsSame cmp eq m n → n ≡ m
copies {cmp = cmp} is exact m n = subst (λ q. IsSame cmp q m n → n ≡ m) (sym is) (λ h. sym (map_from_same exact m n h))

-- the maps after one of them changed
pub changed_is : {K V : Type 0} {cmp : K → K → Ordering} {eq same : V → V → Bool} → eq ≡ same → IsExact cmp same → (maps : List (Map K V)) (n : ℕ) (m after : Map K V) (k : K) (v : V) →
    slice_get maps n ≡ Some m → IsSame cmp eq (set cmp eq m k v) after → slice_set maps n after ≡ changed_at cmp same maps n k v
changed_is is exact maps n m after k v there h = rw there (ap (λ x. slice_set maps n x) (changes is exact m after k v h))

-- the same of contents, which are compared as trees
pub contents_set : (m after : Map Key Content) (k : Key) (c : Content) → IsSame key_cmp (on content_of same_content) (set key_cmp (on content_of same_content) m k c) after →
    contents_of after ≡ set key_cmp same_content (contents_of m) k (content_of c)
contents_set m after k c h = meaning_of-set (IsMeaning-on (λ k. k) content_of key_cmp same_content) exact_contents m after k c h

-- copies of maps are equal, and so are those of contents
pub all_copies : {K V : Type 0} {cmp : K → K → Ordering} {eq same : V → V → Bool} → eq ≡ same → IsExact cmp same → (ms ns : List (Map K V)) → AllZip (IsSame cmp eq) ms ns → ns ≡ ms
all_copies is exact [] [] h = refl
all_copies is exact [] (n ∷ ns) h = absurd h
all_copies is exact (m ∷ ms) [] h = absurd h
all_copies is exact (m ∷ ms) (n ∷ ns) h =
    let first = copies is exact m n h.0 in
    let rest = all_copies is exact ms ns h.1 in
    λ i. first i ∷ rest i

pub contents_copied : (ms ns : List (Map Key Content)) → AllZip (IsSame key_cmp (on content_of same_content)) ms ns → map contents_of ns ≡ map contents_of ms
contents_copied [] [] h = refl
contents_copied [] (n ∷ ns) h = absurd h
contents_copied (m ∷ ms) [] h = absurd h
contents_copied (m ∷ ms) (n ∷ ns) h =
    let first = sym (meaning_of-same (IsMeaning-on (λ k. k) content_of key_cmp same_content) exact_contents m n h.0) in
    let rest = contents_copied ms ns h.1 in
    λ i. first i ∷ rest i

-- so the contents of all predicates change as their trees do
pub contents_changed : (maps : List (Map Key Content)) (n : ℕ) (m after : Map Key Content) (k : Key) (c : Content) → slice_get maps n ≡ Some m →
    IsSame key_cmp (on content_of same_content) (set key_cmp (on content_of same_content) m k c) after →
    map contents_of (slice_set maps n after) ≡ changed_at key_cmp same_content (map contents_of maps) n k (content_of c)
contents_changed maps n m after k c there h =
    let found : slice_get (map contents_of maps) n ≡ Some (contents_of m) = slice_get-map contents_of maps n ∙ ap (option_map contents_of) there in
    map-set contents_of maps n after ∙ rw found (ap (λ x. slice_set (map contents_of maps) n x) (contents_set m after k c h))

-- ---- one of the maps is changed

module _ {K V : Type 0} {cmp : K → K → Ordering} (o : IsTotalOrder cmp) {eq : V → V → Bool} (equiv : IsEquivalence eq) where
  all_same : (maps : List (Map K V)) → AllZip (IsSame cmp eq) maps maps
  all_same [] = tt
  all_same (m ∷ ms) = (IsSame-refl o equiv m, all_same ms)

  same_set : (maps : List (Map K V)) (n : ℕ) (m after : Map K V) → IsSame cmp eq m after → AllZip (IsSame cmp eq) (slice_set maps n m) (slice_set maps n after)
  same_set [] n m after h = tt
  same_set (l ∷ ls) zero m after h = (h, all_same ls)
  same_set (l ∷ ls) (suc n) m after h = (IsSame-refl o equiv l, same_set ls n m after h)

  -- the maps, after that of this number was changed
  pub one_changed : (maps : List (Map K V)) (n : ℕ) (m after : Map K V) (k : K) (v : V) → slice_get maps n ≡ Some m → IsSame cmp eq (set cmp eq m k v) after → AllZip (IsSame cmp eq) (changed_at cmp eq maps n k v) (slice_set maps n after)
  one_changed maps n m after k v there h = rw there (same_set maps n (set cmp eq m k v) after h)

  -- and where no map has this number
  pub none_changed : (maps : List (Map K V)) (n : ℕ) (k : K) (v : V) → slice_get maps n ≡ None → AllZip (IsSame cmp eq) (changed_at cmp eq maps n k v) maps
  none_changed maps n k v there = rw there (all_same maps)

-- exactly that change was made
pub maps_changed : {K V : Type 0} {cmp : K → K → Ordering} {eq same : V → V → Bool} → eq ≡ same → IsExact cmp same → (maps after : List (Map K V)) (n : ℕ) (k : K) (v : V) →
    AllZip (IsSame cmp eq) (changed_at cmp eq maps n k v) after → after ≡ changed_at cmp same maps n k v
maps_changed {cmp = cmp} {same = same} is exact maps after n k v =
    subst (λ q. AllZip (IsSame cmp q) (changed_at cmp q maps n k v) after → after ≡ changed_at cmp same maps n k v) (sym is) (λ h. all_copies refl exact (changed_at cmp same maps n k v) after h)

-- the contents of all predicates change as their trees do
pub all_contents_changed : (maps after : List (Map Key Content)) (n : ℕ) (k : Key) (c : Content) →
    AllZip (IsSame key_cmp (on content_of same_content)) (changed_at key_cmp (on content_of same_content) maps n k c) after →
    map contents_of after ≡ changed_at key_cmp same_content (map contents_of maps) n k (content_of c)
all_contents_changed maps after n k c h =
    contents_copied (changed_at key_cmp (on content_of same_content) maps n k c) after h ∙ meant (slice_get maps n) ∙ ap (changed key_cmp same_content (map contents_of maps) n k (content_of c)) (sym (slice_get-map contents_of maps n))
  where
    meant : (o : Option (Map Key Content)) → map contents_of (changed key_cmp (on content_of same_content) maps n k c o) ≡ changed key_cmp same_content (map contents_of maps) n k (content_of c) (option_map contents_of o)
    meant None = refl
    meant (Some m) =
        let set_there = sym (set-meaning_of (IsMeaning-on (λ k. k) content_of key_cmp same_content) m k c) in
        map-set contents_of maps n (set key_cmp (on content_of same_content) m k c) ∙ ap (λ x. slice_set (map contents_of maps) n x) set_there

-- what an instance contains
pub contents_read : (maps : List (Map Key Content)) (n : ℕ) (k : Key) → option_map content_of (found_at key_cmp maps n k) ≡ found_at key_cmp (map contents_of maps) n k
contents_read maps n k = rw (slice_get-map contents_of maps n) (meant (slice_get maps n))
  where
    meant : (o : Option (Map Key Content)) → option_map content_of (option_map (λ m. get key_cmp m k) o) ≡ option_map (λ m. get key_cmp m k) (option_map contents_of o)
    meant None = refl
    meant (Some m) = ap Some (sym (get-meaning_of (IsMeaning-on (λ k. k) content_of key_cmp same_content) m k))

-- clones of keys and contents are equal
pub contents_cloned : {kc : Key → Key → Type 0} {vc : Content → Content → Type 0} → ((k q : Key) → kc k q → q ≡ k) → ((v w : Content) → vc v w → content_of w ≡ content_of v) →
    ClonesAreEqual key_cmp (on content_of same_content) kc vc
contents_cloned keys values = ClonesAreEqual-from_meaning (IsMeaning-on (λ k. k) content_of key_cmp same_content) exact_contents keys values

pub amounts_cloned : {kc : Key → Key → Type 0} {vc : Fraction → Fraction → Type 0} → ((k q : Key) → kc k q → q ≡ k) → ((v w : Fraction) → vc v w → w ≡ v) →
    ClonesAreEqual key_cmp fractions.ghosts.eq kc vc
amounts_cloned keys values = ClonesAreEqual-from_meaning (IsMeaning-itself key_cmp _) (subst (λ t. IsExact key_cmp t) (sym fraction_test) exact_amounts) keys values

-- what follows of a change that was made
pub made : {E X : Type 0} {P Q : Type 0} (a : Result X E) → OnOk a P → (P → Q) → OnOk a Q
made (Ok x) h go = go h
made (Err e) h go = tt

-- ---- a map of the program that is reduced is so as plain data

pub values_reduced : (m : Map ℕ Value) → IsReduced nat_cmp values.ghosts.eq m → IsReduced nat_cmp value_eq m
values_reduced m r = subst (λ t. IsReduced nat_cmp t m) value_test r

pub fractions_reduced : {K : Type 0} {cmp : K → K → Ordering} (m : Map K Fraction) → IsReduced cmp fractions.ghosts.eq m → IsReduced cmp fraction_eq m
fractions_reduced {cmp = cmp} m r = subst (λ t. IsReduced cmp t m) fraction_test r

pub contents_reduced : (m : Map Key Content) → IsReduced key_cmp (on content_of same_content) m → IsReduced key_cmp same_content (contents_of m)
contents_reduced m r = IsReduced-meaning_of (IsMeaning-on (λ k. k) content_of key_cmp same_content) m r
