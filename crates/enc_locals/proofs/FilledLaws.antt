-- Maps that are filled with the entries of another, one after the other, are that one.
use Rattle.std.proofs.Common.{◌≡◌, ◌<◌, ◌≤◌, ◌+◌, ◌∙◌, ℕ, zero, suc, List, [], ◌∷◌, map, drop, length, get_or, All, Some, slice_get, refl, sym, ap, subst, arith}
use Rattle.std.specs.List.{AllZip}
use Rattle.std.specs.Option.{option_map}
use Rattle.std.specs.Ordering.{nat_cmp, on}
use Rattle.std.specs.Prelude.{Bool}
use Rattle.std.proofs.lemmas.Cmp.{nat_cmp_total}
use Rattle.std.proofs.lemmas.List.{get_or-map, length-map}
use Rattle.std.proofs.lemmas.List.Elements.{All-nil, All-cons, All-get_or}
use Rattle.std.proofs.lemmas.Option.{slice_get-map}
use Rattle.sparse.specs.Map.{Map, empty, get, keys, set, IsReduced, IsSame, ClonesAreEqual}
use Rattle.sparse.specs.Meaning.{meaning_of}
use Rattle.sparse.proofs.MapLaws.{get-keys}
use Rattle.sparse.proofs.MeaningLaws.{meaning_of-set, IsMeaning-on, ClonesAreEqual-from_meaning}
use Rattle.vb_value.specs.Content as tree
use Rattle.vb_value.specs.Content.{same_content}
use Rattle.vb_value.specs.Key.{key_cmp}
use Rattle.vb_value.specs.KeyOrder.{key_cmp_total}
use Rattle.vb_value.specs.View.{content_of}
use Rattle.vb_value.specs.declared.contents.Content.{Content}
use Rattle.vb_value.specs.declared.values.Ty.{Ty}
use Rattle.vb_value.specs.declared.values.Value.{Value}
use Rattle.viper_state.specs.Fits.{FitsHeap, FitsContents}
use Rattle.viper_state.specs.View.{contents_of}
use Rattle.boogie_tree.specs.Value.{Key, BScalar, Snap, same_scalar}
use Rattle.boogie_tree.specs.Whole.{scalar_of}
use Rattle.boogie_tree.specs.declared.values.BScalar as declared
use Rattle.boogie_meaning.specs.Run.{entries_of, filled}
use Rattle.boogie_meaning.proofs.ValueLaws.{exact, filled_again}
use Rattle.moves.specs.Maps.{place_key, instance_key}
use Rattle.moves.specs.Scalars.{scalar}
use Rattle.moves.proofs.MapLaws.{heap_of_type, contents_of_type}
use Rattle.enc_locals.specs.Filled.{map_of, heap_image, content_image, IsTidy, entries_from}

-- ---- changes of maps of the program

pub clones : {kc : Key → Key → Type 0} {vc : declared.BScalar → declared.BScalar → Type 0} → ((k q : Key) → kc k q → q ≡ k) → ((x y : declared.BScalar) → vc x y → scalar_of y ≡ scalar_of x) →
    ClonesAreEqual key_cmp (on scalar_of same_scalar) kc vc
clones keys values = ClonesAreEqual-from_meaning (IsMeaning-on (λ k. k) scalar_of key_cmp same_scalar) exact keys values

pub set_is : (m after : Map Key declared.BScalar) (k : Key) (x : declared.BScalar) → IsSame key_cmp (on scalar_of same_scalar) (set key_cmp (on scalar_of same_scalar) m k x) after →
    map_of after ≡ set key_cmp same_scalar (map_of m) k (scalar_of x)
set_is m after k x h = meaning_of-set (IsMeaning-on (λ k. k) scalar_of key_cmp same_scalar) exact m after k x h

-- ---- one entry, and those that are left

module _ {K V : Type 0} (f : K → Key) (g : V → BScalar) where
  abbrev means : List (K × V) → List (Key × BScalar)
  means es = map {B = Key × BScalar} (λ (e : K × V). (f e.0, g e.1)) es

  next_left : (es : List (K × V)) (i : ℕ) (k : K) (v : V) → slice_get es i ≡ Some (k, v) → drop i (entries_of (means es)) ≡ record { key = f k; value = g v } ∷ drop (i + 1) (entries_of (means es))
  next_left [] i k v there = absurd (cc)
  next_left (e ∷ es) zero k v there = let same : e ≡ (k, v) = cc in ap (λ (d : K × V). record { key = f d.0; value = g d.1 } ∷ entries_of (means es)) same
  next_left (e ∷ es) (suc i) k v there =
      let next : suc (i + 1) ≡ suc i + 1 = omega arith in next_left es i k v there ∙ ap (λ n. record { key = f k; value = g v } ∷ drop n (entries_of (means (e ∷ es)))) next

  none_left : (es : List (K × V)) (i : ℕ) → length es ≤ i → drop i (entries_of (means es)) ≡ []
  none_left [] zero past = refl
  none_left [] (suc i) past = refl
  none_left (e ∷ es) zero past = absurd (omega (arith, past))
  none_left (e ∷ es) (suc i) past = none_left es i (omega (arith, past))

  put_next : (m : Map K V) (i : ℕ) (k : K) (v : V) (before after : Map Key BScalar) → slice_get m.entries i ≡ Some (k, v) → after ≡ set key_cmp same_scalar before (f k) (g v) →
      filled before (entries_from (meaning_of f g m) i) ≡ filled after (entries_from (meaning_of f g m) (i + 1))
  put_next m i k v before after there is = ap (filled before) (next_left m.entries i k v there) ∙ ap (λ n. filled n (drop (i + 1) (entries_of (means m.entries)))) (sym is)

  -- where none is left, the map is filled
  pub all_put : (m : Map K V) (n : Map Key BScalar) (i : ℕ) → IsTidy (meaning_of f g m) → length m.entries ≤ i → filled (empty (g m.default)) (entries_from (meaning_of f g m) 0) ≡ filled n (entries_from (meaning_of f g m) i) →
      n ≡ meaning_of f g m
  all_put m n i tidy past so_far = ap (filled n) (sym (none_left m.entries i past)) ∙ (sym so_far ∙ filled_again (meaning_of f g m) tidy)

-- ---- heaps and contents

pub put_place : {eq : Value → Value → Bool} (m : Map ℕ Value) (i r : ℕ) (v : Value) (before after : Map Key BScalar) → IsReduced nat_cmp eq m → slice_get (keys m) i ≡ Some r → v ≡ get nat_cmp m r →
    after ≡ set key_cmp same_scalar before (place_key r) (scalar v) → filled before (entries_from (heap_image m) i) ≡ filled after (entries_from (heap_image m) (i + 1))
put_place m i r v before after reduced here read is =
    put_next place_key scalar m i r v before after (get-keys nat_cmp_total m reduced i r here ∙ ap (λ z. Some (r, z)) (sym read)) is

pub put_instance : (m : Map Key Content) (i : ℕ) (k : Key) (c : Content) (before after : Map Key BScalar) → IsReduced key_cmp (on content_of same_content) m → slice_get (keys m) i ≡ Some k → c ≡ get key_cmp m k →
    after ≡ set key_cmp same_scalar before (instance_key k) (Snap (content_of c)) →
    filled before (entries_from (content_image (contents_of m)) i) ≡ filled after (entries_from (content_image (contents_of m)) (i + 1))
put_instance m i k c before after reduced here read is =
    put_next instance_key Snap (contents_of m) i k (content_of c) before after
    (slice_get-map (λ (x : Key × Content). (x.0, content_of x.1)) m.entries i ∙
    ap (option_map (λ (x : Key × Content). (x.0, content_of x.1))) (get-keys key_cmp_total m reduced i k here ∙ ap (λ z. Some (k, z)) (sym read))) is

pub heap_put : (m : Map ℕ Value) (n : Map Key BScalar) (i : ℕ) → IsTidy (heap_image m) → length (keys m) ≤ i → filled (empty (scalar m.default)) (entries_from (heap_image m) 0) ≡ filled n (entries_from (heap_image m) i) → n ≡ heap_image m
heap_put m n i tidy past so_far = all_put place_key scalar m n i tidy (omega (arith, past, length-map m.entries (λ (e : ℕ × Value). e.0))) so_far

pub contents_put : (m : Map Key Content) (n : Map Key BScalar) (i : ℕ) → IsTidy (content_image (contents_of m)) → length (keys m) ≤ i →
    filled (empty (Snap (content_of m.default))) (entries_from (content_image (contents_of m)) 0) ≡ filled n (entries_from (content_image (contents_of m)) i) → n ≡ content_image (contents_of m)
contents_put m n i tidy past so_far =
    all_put instance_key Snap (contents_of m) n i tidy
    (omega (arith, past, length-map m.entries (λ (e : Key × Content). e.0), length-map {B = Key × tree.Content} m.entries (λ (e : Key × Content). (e.0, content_of e.1)))) so_far

-- ---- those of an opening

-- what holds of each image holds of that of this index
pub image_at : {X Y : Type 0} (P : Y → Type 0) (f : X → Y) (xs : List X) (i : ℕ) (x : X) → All P (map f xs) → i < length xs → x ≡ get_or xs i x → P (f x)
image_at P f xs i x h low is =
    let within : i < length (map f xs) = omega (arith, low, length-map xs f) in
    subst P (get_or-map f xs i x (f x) low ∙ ap f (sym is)) (All-get_or P (map f xs) i (f x) within h)

pub heaps_tidy : (us : List Ty) (ms : List (Map ℕ Value)) → AllZip FitsHeap us ms → All (λ m. IsTidy (heap_image m)) ms
heaps_tidy [] [] h = All-nil (λ m. IsTidy (heap_image m))
heaps_tidy [] (m ∷ ms) h = absurd h
heaps_tidy (u ∷ us) [] h = absurd h
heaps_tidy (u ∷ us) (m ∷ ms) h = All-cons (λ n. IsTidy (heap_image n)) m ms (heap_of_type u m h.0).reduced (heaps_tidy us ms h.1)

pub contents_tidy : (keys : List (List Ty)) (ms : List (Map Key tree.Content)) → AllZip FitsContents keys ms → All (λ m. IsTidy (content_image m)) ms
contents_tidy [] [] h = All-nil (λ m. IsTidy (content_image m))
contents_tidy [] (m ∷ ms) h = absurd h
contents_tidy (us ∷ keys) [] h = absurd h
contents_tidy (us ∷ keys) (m ∷ ms) h = All-cons (λ n. IsTidy (content_image n)) m ms (contents_of_type us m h.0).reduced (contents_tidy keys ms h.1)
