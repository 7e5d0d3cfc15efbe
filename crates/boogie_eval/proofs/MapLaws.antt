-- Maps of the program as plain data.
use Rattle.std.proofs.Common.{◌≡◌, refl, sym, ap, List, [], ◌∷◌, map}
use Rattle.std.specs.Map.{keys_of}
use Rattle.std.specs.Ordering.{on}
use Rattle.sparse.specs.Map.{Map, keys, set, IsSame, ClonesAreEqual}
use Rattle.sparse.proofs.MeaningLaws.{meaning_of-same, meaning_of-set, IsMeaning-on, ClonesAreEqual-from_meaning}
use Rattle.vb_value.specs.Key.{key_cmp}
use Rattle.boogie_tree.specs.Value as v
use Rattle.boogie_tree.specs.Whole.{scalar_of}
use Rattle.boogie_tree.specs.declared.values.BScalar.{BScalar}
use Rattle.boogie_meaning.proofs.ValueLaws.{exact}
use Rattle.boogie_eval.specs.View.{map_of}

same-keys : (es : List (v.Key × BScalar)) → keys_of (map {B = v.Key × v.BScalar} (λ (e : v.Key × BScalar). (e.0, scalar_of e.1)) es) ≡ keys_of es
same-keys [] = refl
same-keys (e ∷ es) = ap (λ ks. e.0 ∷ ks) (same-keys es)

pub keys_mean : (m : Map v.Key BScalar) → keys (map_of m) ≡ keys m
keys_mean m = same-keys m.entries

-- ---- copies and changes

pub clones : {kc : v.Key → v.Key → Type 0} {vc : BScalar → BScalar → Type 0} → ((k q : v.Key) → kc k q → q ≡ k) → ((x y : BScalar) → vc x y → scalar_of y ≡ scalar_of x) →
    ClonesAreEqual key_cmp (on scalar_of v.same_scalar) kc vc
clones keys values = ClonesAreEqual-from_meaning (IsMeaning-on (λ k. k) scalar_of key_cmp v.same_scalar) exact keys values

pub copy_is : (m n : Map v.Key BScalar) → IsSame key_cmp (on scalar_of v.same_scalar) m n → map_of n ≡ map_of m
copy_is m n h = sym (meaning_of-same (IsMeaning-on (λ k. k) scalar_of key_cmp v.same_scalar) exact m n h)

pub set_is : (m after : Map v.Key BScalar) (k : v.Key) (x : BScalar) → IsSame key_cmp (on scalar_of v.same_scalar) (set key_cmp (on scalar_of v.same_scalar) m k x) after →
    map_of after ≡ set key_cmp v.same_scalar (map_of m) k (scalar_of x)
set_is m after k x h = meaning_of-set (IsMeaning-on (λ k. k) scalar_of key_cmp v.same_scalar) exact m after k x h
