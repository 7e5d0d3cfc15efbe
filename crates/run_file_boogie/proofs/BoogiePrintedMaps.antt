-- Entries that ascend, without defaults, make the map whose entries they are.
use Rattle.std.proofs.Common.{◌≡◌, ◌≢◌, ◌∙◌, false, List, [], ◌∷◌, map, All, AllPairs, Some, slice_get, refl, sym, ap, subst, arith}
use Rattle.std.specs.Prelude.{fold}
use Rattle.std.specs.Cmp.{IsTotalOrder}
use Rattle.std.specs.List.Sorted.{IsStrictlySortedBy}
use Rattle.std.specs.Map.{keys_of, values_of}
use Rattle.std.specs.Option.{option_map}
use Rattle.std.specs.declared.cmp.Ordering.{Ordering}
use Rattle.std.specs.declared.cmp.Ordering.TheVariants.{Less}
use Rattle.std.proofs.lemmas.List.Elements.{All-nil, All-cons, All-head, All-tail, All-weaker, All-from_recursion}
use Rattle.std.proofs.lemmas.List.Kept.{AllPairs-cons}
use Rattle.std.proofs.lemmas.Option.{some_pair_parts, slice_get-map}
use Rattle.lemmas.proofs.Lists.{each_there, all_both}
use Rattle.sparse.specs.Map.{Map, empty, get, set, keys, values, IsReduced}
use Rattle.sparse.proofs.MapLaws.{get-keys}
use Rattle.vb_value.specs.Key.{key_cmp}
use Rattle.vb_value.specs.KeyOrder.{key_cmp_total}
use Rattle.boogie_tree.specs.Value.{Key, BScalar, Int, Bool as Truth, Ref, Real, Snap, same_scalar, Entry}
use Rattle.boogie_tree.specs.Values.{is_default, default_of, FitsScalar, IsMapOf}
use Rattle.boogie_tree.specs.declared.exprs.BBase.{BBase}
use Rattle.moves.specs.Printable.{ArePrintableEntries}
use Rattle.run_file_boogie.specs.BoogieRun.{entry_with, filled, entries_of, nothing, KeysOnce}
use Rattle.run_file_boogie.proofs.BoogieMapLaws.{exact_scalars}
use Rattle.run_file_boogie.proofs.BoogiePrintedLines.{entry}
use Rattle.run_file_words.proofs.PrintedMaps.{refilled, refilled_is}
use Rattle.run_file_words.proofs.OnceLaws.{less_itself}

-- ---- keys that ascend differ

pub ascending_differ : {K : Type 0} {cmp : K → K → Ordering} (o : IsTotalOrder cmp) (ks : List K) → IsStrictlySortedBy cmp ks → AllPairs (λ a b. a ≢ b) ks
unfolding IsStrictlySortedBy
ascending_differ o [] h = λ i j d below within. absurd (omega (arith, within))
ascending_differ {cmp = cmp} o (k ∷ ks) h =
    AllPairs-cons (λ a b. a ≢ b) k ks (All-weaker (λ q. cmp k q ≡ Less) (λ q. k ≢ q) (less_itself o k) ks (All-from_recursion (λ q. cmp k q ≡ Less) ks h.0)) (ascending_differ o ks h.1)

-- ---- the entries of a map

module _ (m : Map Key BScalar) (r : IsReduced key_cmp same_scalar m) where
  -- each key has its value
  each_read : All (λ (e : Key × BScalar). get key_cmp m e.0 ≡ e.1) m.entries
  each_read = each_there (λ (e : Key × BScalar). get key_cmp m e.0 ≡ e.1) m.entries (λ i e there.
      let here : slice_get (keys m) i ≡ Some e.0 = slice_get-map (λ (e : Key × BScalar). e.0) m.entries i ∙ ap (option_map (λ (e : Key × BScalar). e.0)) there in
      (some_pair_parts e.0 e.0 (get key_cmp m e.0) e.1 (sym (get-keys key_cmp_total m r i e.0 here) ∙ there)).1)

  one_put : (to : Map Key BScalar) (k : Key) (x y : BScalar) → x ≡ y → is_default y ≡ false → entry_with to (record { key = k; value = y }) ≡ set key_cmp same_scalar to k x
  one_put to k x y same other = rw (other, same) refl

  put_back : (es : List (Key × BScalar)) (to : Map Key BScalar) → All (λ (e : Key × BScalar). get key_cmp m e.0 ≡ e.1) es → All (λ v. is_default v ≡ false) (values_of es) →
      fold entry_with to (map entry es) ≡ refilled key_cmp same_scalar m to (keys_of es)
  put_back [] to read others = refl
  put_back (e ∷ es) to read others =
      ap (λ t. fold entry_with t (map entry es))
      (one_put to e.0 (get key_cmp m e.0) e.1 (All-head (λ (e : Key × BScalar). get key_cmp m e.0 ≡ e.1) e es read) (All-head (λ v. is_default v ≡ false) e.1 (values_of es) others)) ∙
      put_back es (set key_cmp same_scalar to e.0 (get key_cmp m e.0)) (All-tail (λ (e : Key × BScalar). get key_cmp m e.0 ≡ e.1) e es read) (All-tail (λ v. is_default v ≡ false) e.1 (values_of es) others)

  pub map_filled : All (λ v. is_default v ≡ false) (values m) → filled m.default (entries_of m) ≡ m
  map_filled others = put_back m.entries (empty m.default) each_read others ∙ refilled_is exact_scalars m r

-- ---- maps of one type

pub none_default : {us : List BBase} {u : BBase} (m : Map Key BScalar) → IsMapOf us u m → All (λ v. is_default v ≡ false) (values m)
none_default {u = u} m h =
    all_both (FitsScalar u) (λ v. same_scalar v m.default ≡ false) (λ v. is_default v ≡ false)
    (λ v fits other. subst (λ z. same_scalar v z ≡ false) (h.default ∙ ap default_of (sym fits.typed)) other) (values m) h.values h.reduced.no_default

pub typed_filled : {us : List BBase} {u : BBase} (m : Map Key BScalar) → IsMapOf us u m → filled (default_of u) (entries_of m) ≡ m
typed_filled m h = subst (λ z. filled z (entries_of m) ≡ m) h.default (map_filled m h.reduced (none_default m h))

-- ---- the entries of a choice

abbrev pair : Entry → Key × BScalar
pair e = (e.key, e.value)

abbrev made : List Entry → Map Key BScalar
made es = record { default = nothing; entries = map pair es }

made_keys : (es : List Entry) → keys (made es) ≡ map (λ (e : Entry). e.key) es
made_keys [] = refl
made_keys (e ∷ es) = ap (λ ks. e.key ∷ ks) (made_keys es)

made_entries : (es : List Entry) → entries_of (made es) ≡ es
made_entries [] = refl
made_entries (e ∷ es) = ap (λ xs. e ∷ xs) (made_entries es)

made_values : (P : BScalar → Type 0) (es : List Entry) → All (λ (e : Entry). P e.value) es → All P (values (made es))
made_values P [] h = All-nil P
made_values P (e ∷ es) h =
    All-cons P e.value (values (made es)) (All-head (λ (e : Entry). P e.value) e es h) (made_values P es (All-tail (λ (e : Entry). P e.value) e es h))

other_than_nothing : (v : BScalar) → is_default v ≡ false → same_scalar v nothing ≡ false
other_than_nothing (Int n) e = refl
other_than_nothing (Truth t) e = refl
other_than_nothing (Ref r) e = refl
other_than_nothing (Real q) e = refl
other_than_nothing (Snap c) e = e

pub entries_back : (es : List Entry) → ArePrintableEntries es → entries_of (filled nothing es) ≡ es
entries_back es h =
    let others = made_values (λ v. is_default v ≡ false) es h.others in
    let reduced : IsReduced key_cmp same_scalar (made es) = record {
      ascending = subst (IsStrictlySortedBy key_cmp) (sym (made_keys es)) h.ascending;
      no_default = All-weaker (λ v. is_default v ≡ false) (λ v. same_scalar v nothing ≡ false) other_than_nothing (values (made es)) others;
    } in
    ap entries_of (ap (filled nothing) (sym (made_entries es)) ∙ map_filled (made es) reduced others) ∙ made_entries es

pub entries_once : (es : List Entry) → ArePrintableEntries es → KeysOnce es
entries_once es h = ascending_differ key_cmp_total (map (λ (e : Entry). e.key) es) h.ascending

keys_are : (es : List (Key × BScalar)) → map (λ (e : Entry). e.key) (map entry es) ≡ keys_of es
keys_are [] = refl
keys_are (e ∷ es) = ap (λ ks. e.0 ∷ ks) (keys_are es)

pub map_once : (m : Map Key BScalar) → IsReduced key_cmp same_scalar m → KeysOnce (entries_of m)
map_once m r = subst (AllPairs (λ a b. a ≢ b)) (sym (keys_are m.entries)) (ascending_differ key_cmp_total (keys m) r.ascending)
