-- What is said of the entries of a map is said of its keys and values.
use Rattle.std.proofs.Common.{◌≡◌, ◌≤◌, ◌+◌, ◌∙◌, ℕ, map, take, All, length, Some, slice_get, sym, ap, arith}
use Rattle.std.specs.Ordering.{on}
use Rattle.std.proofs.lemmas.List.{length-map}
use Rattle.std.proofs.lemmas.List.Elements.{All-map, All-weaker}
use Rattle.std.proofs.lemmas.Option.{slice_get_within, get_or_from_slice_get}
use Rattle.lemmas.proofs.Lists.{named_more, all_named}
use Rattle.sparse.specs.Map.{Map, get, keys, values, IsReduced}
use Rattle.sparse.proofs.MapLaws.{get-keys}
use Rattle.vb_value.specs.Key.{key_cmp}
use Rattle.vb_value.specs.KeyOrder.{key_cmp_total}
use Rattle.boogie_tree.specs.Value.{Key, BScalar, same_scalar}
use Rattle.boogie_tree.specs.Whole.{scalar_of}
use Rattle.boogie_tree.specs.declared.values.BScalar as declared
use Rattle.moves.specs.Printable.{IsNamedKey, IsNamedScalar}
use Rattle.enc_locals.specs.Filled.{map_of}

abbrev pub IsNamedPair : Key × BScalar → Type 0
IsNamedPair e = IsNamedKey e.0 × IsNamedScalar e.1

abbrev pub pair_of : Key × declared.BScalar → Key × BScalar
pair_of e = (e.0, scalar_of e.1)

-- one more entry, with the key of this index
pub pair_more : (m : Map Key declared.BScalar) (i : ℕ) (k : Key) (x : declared.BScalar) → IsReduced key_cmp (on scalar_of same_scalar) m → slice_get (keys m) i ≡ Some k → x ≡ get key_cmp m k →
    All IsNamedPair (map pair_of (take i m.entries)) → IsNamedKey k → IsNamedScalar (scalar_of x) → All IsNamedPair (map pair_of (take (i + 1) m.entries))
pair_more m i k x reduced here read so_far key value =
    let there : slice_get m.entries i ≡ Some (k, x) = get-keys key_cmp_total m reduced i k here ∙ ap (λ z. Some (k, z)) (sym read) in
    named_more IsNamedPair pair_of m.entries i (k, x) (slice_get_within m.entries i (k, x) there) (sym (get_or_from_slice_get m.entries i (k, x) (k, x) there)) so_far (key, value)

all_pairs : (m : Map Key declared.BScalar) (i : ℕ) → length (keys m) ≤ i → All IsNamedPair (map pair_of (take i m.entries)) → All IsNamedPair (map pair_of m.entries)
all_pairs m i past h = all_named IsNamedPair pair_of m.entries i (omega (arith, past, length-map m.entries (λ (e : Key × declared.BScalar). e.0))) h

pub keys_named : (m : Map Key declared.BScalar) (i : ℕ) → length (keys m) ≤ i → All IsNamedPair (map pair_of (take i m.entries)) → All IsNamedKey (keys (map_of m))
keys_named m i past h =
    let es = map pair_of m.entries in
    All-map IsNamedKey (λ (e : Key × BScalar). e.0) es (All-weaker IsNamedPair (λ (e : Key × BScalar). IsNamedKey e.0) (λ e both. both.0) es (all_pairs m i past h))

pub values_named : (m : Map Key declared.BScalar) (i : ℕ) → length (keys m) ≤ i → All IsNamedPair (map pair_of (take i m.entries)) → All IsNamedScalar (values (map_of m))
values_named m i past h =
    let es = map pair_of m.entries in
    All-map IsNamedScalar (λ (e : Key × BScalar). e.1) es (All-weaker IsNamedPair (λ (e : Key × BScalar). IsNamedScalar e.1) (λ e both. both.1) es (all_pairs m i past h))
