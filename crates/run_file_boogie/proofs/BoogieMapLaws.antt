-- The map that is filled is kept exactly.
use Rattle.std.proofs.Common.{◌≡◌, ◌∙◌, ℕ, false, List, [], ◌∷◌, map, slice_get, Some, refl, sym, ap}
use Rattle.std.specs.Option.{option_map}
use Rattle.std.specs.Ordering.{on}
use Rattle.std.proofs.lemmas.Option.{slice_get-map}
use Rattle.sparse.specs.Map.{Map, get, keys, set, IsReduced, IsSame, ClonesAreEqual}
use Rattle.sparse.specs.Meaning.{IsExact}
use Rattle.sparse.proofs.MapLaws.{get-keys}
use Rattle.sparse.proofs.MeaningLaws.{meaning_of-set, IsMeaning-on, ClonesAreEqual-from_meaning}
use Rattle.vb_value.specs.Key.{key_cmp}
use Rattle.vb_value.specs.KeyOrder.{key_cmp_total}
use Rattle.vb_value.proofs.KeyLaws.{same_from_key_cmp}
use Rattle.boogie_tree.specs.Values.{is_default}
use Rattle.boogie_tree.specs.Equality.{Decides-same_scalar}
use Rattle.boogie_tree.specs.Value as v
use Rattle.boogie_tree.specs.Value.{Key, same_scalar}
use Rattle.boogie_tree.specs.Whole.{scalar_of}
use Rattle.boogie_tree.specs.declared.values.BScalar.{BScalar}
use Rattle.run_file_boogie.specs.BoogieRun.{entry_with, entries_of}
use Rattle.run_file_boogie.specs.BoogieView.{filling_of}

pub exact_scalars : IsExact key_cmp same_scalar
exact_scalars = record { total = key_cmp_total; keys = same_from_key_cmp; values = Decides-same_scalar }

pub scalars_cloned : {kc : Key → Key → Type 0} {vc : BScalar → BScalar → Type 0} → ((k q : Key) → kc k q → q ≡ k) → ((x y : BScalar) → vc x y → scalar_of y ≡ scalar_of x) →
    ClonesAreEqual key_cmp (on scalar_of same_scalar) kc vc
scalars_cloned keys values = ClonesAreEqual-from_meaning (IsMeaning-on (λ k. k) scalar_of key_cmp same_scalar) exact_scalars keys values

-- an entry that is no default is set
pub entry_put : (m after : Map Key BScalar) (k : Key) (x : BScalar) → is_default (scalar_of x) ≡ false →
    IsSame key_cmp (on scalar_of same_scalar) (set key_cmp (on scalar_of same_scalar) m k x) after →
    filling_of after ≡ entry_with (filling_of m) (record { key = k; value = scalar_of x })
entry_put m after k x other h = rw other (meaning_of-set (IsMeaning-on (λ k. k) scalar_of key_cmp same_scalar) exact_scalars m after k x h)

-- ---- the entries of a map

pub entry_there : (m : Map Key BScalar) (i : ℕ) (k : Key) (x : BScalar) → IsReduced key_cmp (on scalar_of same_scalar) m → slice_get (keys m) i ≡ Some k → x ≡ get key_cmp m k →
    slice_get (entries_of (filling_of m)) i ≡ Some (record { key = k; value = scalar_of x })
entry_there m i k x reduced here read =
    let there : slice_get m.entries i ≡ Some (k, x) = get-keys key_cmp_total m reduced i k here ∙ ap (λ z. Some (k, z)) (sym read) in
    slice_get-map (λ (e : Key × v.BScalar). record { key = e.0; value = e.1 }) (filling_of m).entries i ∙
    ap (option_map (λ (e : Key × v.BScalar). record { key = e.0; value = e.1 })) (slice_get-map (λ (e : Key × BScalar). (e.0, scalar_of e.1)) m.entries i ∙ ap (option_map (λ (e : Key × BScalar). (e.0, scalar_of e.1))) there)

-- ---- the entries of a map, moved out one after the other

-- the entry that a key and its value are
abbrev pub moved : Key × BScalar → v.Entry
moved e = record { key = e.0; value = scalar_of e.1 }

moved_each : (es : List (Key × BScalar)) → map moved es ≡ map (λ (e : Key × v.BScalar). record { key = e.0; value = e.1 }) (map {B = Key × v.BScalar} (λ (e : Key × BScalar). (e.0, scalar_of e.1)) es)
moved_each [] = refl
moved_each (e ∷ es) = ap (λ rest. moved e ∷ rest) (moved_each es)

-- all of them are left
pub all_left : (m : Map Key BScalar) (pairs left : List (Key × BScalar)) → pairs ≡ m.entries → left ≡ pairs → map moved left ≡ entries_of (filling_of m)
all_left m pairs left are all = ap (map moved) (all ∙ are) ∙ moved_each m.entries
