-- Maps of Viper from maps of Boogie, and entries of Boogie from maps of Viper.
use Rattle.std.proofs.Common.{◌≡◌, ◌≢◌, ℕ, zero, pos, Bool as Truth, true, false, ◌&&◌, List, [], ◌∷◌, All, Option, Some, None, map, if◌then◌else◌, refl, sym, ap, subst, ◌∙◌}
use Rattle.std.specs.Map.{keys_of, values_of, lookup}
use Rattle.std.specs.BTreeMap.{is_at}
use Rattle.std.specs.Option.{option_map}
use Rattle.std.specs.Prelude.{unwrap_or}
use Rattle.std.specs.List.{AllByRecursion}
use Rattle.std.specs.List.Sorted.{IsStrictlySortedBy}
use Rattle.std.specs.Ordering.{is_eq}
use Rattle.std.specs.Cmp.{Equal-is}
use Rattle.std.specs.declared.cmp.Ordering.TheVariants.{Less}
use Rattle.std.proofs.lemmas.Bool.{true≢false}
use Rattle.std.proofs.lemmas.Option.{same_Some, none-some}
use Rattle.std.proofs.lemmas.List.Elements.{All-nil, All-cons, All-head, All-tail}
use Rattle.enc_expr.proofs.FillLaws.{scalar_same}
use Rattle.lemmas.proofs.Orders.{at_itself}
use Rattle.sparse.specs.Map.{Map, empty, get, set, keys, values, IsReduced}
use Rattle.sparse.proofs.MapLaws.{IsReduced-empty, IsReduced-set, get-set_same, get-set_other, All-keys-set, All-values-set}
use Rattle.vb_value.specs.Content.{Content, IsReducedContent}
use Rattle.vb_value.specs.Bound.{Bound}
use Rattle.vb_value.specs.Key.{key_cmp, IsProperKey}
use Rattle.enc_assert.specs.Alongside.{IsProperScalar, IsProperEntry, IsProperMove}
use Rattle.vb_value.specs.declared.keys.KeyPart.{KeyPart}
use Rattle.vb_value.specs.declared.keys.KeyPart.TheVariants as part
use Rattle.vb_value.specs.declared.values.Ty.{Ty}
use Rattle.vb_value.specs.declared.values.Ty.TheVariants as ty
use Rattle.vb_value.specs.declared.values.Value.{Value}
use Rattle.vb_value.specs.declared.values.Value.TheVariants as v
use Rattle.viper_state.specs.Fits.{FitsKey, FitsValue, part_type}
use Rattle.boogie_tree.specs.Value as bv
use Rattle.boogie_tree.specs.Value.{Key, BScalar, Entry, BChoice, Many, same_scalar}
use Rattle.boogie_tree.specs.Values as b
use Rattle.boogie_tree.specs.declared.exprs.BBase.{BBase}
use Rattle.boogie_tree.specs.declared.exprs.BBase.TheVariants as base
use Rattle.boogie_meaning.specs.Run.{filled, fits_entries, chosen}
use Rattle.boogie_meaning.specs.Decided.{Decides-same_base, Decides-fits_key}
use Rattle.boogie_meaning.proofs.ValueLaws.{exact}
use Rattle.moves.specs.Scalars.{scalar, base_for}
use Rattle.moves.specs.Maps.{place_key, instance_key, index_types}
use Rattle.enc_expr.specs.Coupling.{MapKind, heap_kind, content_kind}
use Rattle.enc_expr.proofs.MapLaws.{IsKind}

-- ---- reading keys and values of Boogie back

-- a key that counts, and a value, if there is one
pub record Reads {K V : Type 0} (k : MapKind K V) (Fits : V → Type 0) : Type 0 where
  pub key_in : Key → Option K
  pub value_in : BScalar → Option V
  pub key_back : (a : K) → k.Counts a → key_in (k.key a) ≡ Some a
  pub key_there : (j : Key) (a : K) → b.FitsKey k.keys j → key_in j ≡ Some a → (k.key a ≡ j) × k.Counts a
  pub value_there : (w : BScalar) → b.FitsScalar k.base w → (x : V) × ((value_in w ≡ Some x) × ((k.code x ≡ w) × Fits x))
  pub same_value : (x y : V) → k.code x ≡ k.code y → x ≡ y

abbrev pub place_in : Key → Option ℕ
place_in (part.Ref r ∷ []) = Some r
place_in _ = None

abbrev pub value_of : Ty → BScalar → Option Value
value_of ty.Int (bv.Int n) = Some (v.Int n)
value_of ty.Bool (bv.Bool p) = Some (v.Bool p)
value_of ty.Ref (bv.Ref r) = Some (v.Ref r)
value_of ty.Perm (bv.Real q) = Some (v.Perm q)
value_of _ _ = None

pub heap_reads : (u : Ty) → Reads (heap_kind u) (FitsValue u)
heap_reads u = record {
  key_in = place_in;
  value_in = value_of u;
  key_back = λ a h. back a;
  key_there = λ j a fits h. (there j a h, tt);
  value_there = λ w h. value u w h;
  same_value = scalar_same;
}
  where
    back : (a : ℕ) → place_in (place_key a) ≡ Some a
    back a = refl

    there : (j : Key) (a : ℕ) → place_in j ≡ Some a → place_key a ≡ j
    there (part.Ref r ∷ []) a h = ap place_key (sym (same_Some _ _ h))
    there _ a h = absurd (none-some a h)

    value : (u : Ty) (w : BScalar) → b.FitsScalar (base_for u) w → (x : Value) × ((value_of u w ≡ Some x) × ((scalar x ≡ w) × FitsValue u x))
    value ty.Int (bv.Int n) h = (v.Int n, (refl, (refl, record { typed = refl; reduced = tt })))
    value ty.Bool (bv.Bool p) h = (v.Bool p, (refl, (refl, record { typed = refl; reduced = tt })))
    value ty.Ref (bv.Ref r) h = (v.Ref r, (refl, (refl, record { typed = refl; reduced = tt })))
    value ty.Perm (bv.Real q) h = (v.Perm q, (refl, (refl, record { typed = refl; reduced = h.reduced })))
    value _ _ h = let e = h.typed in absurd (cc)

-- an instance without parameters stands at the key 0
abbrev pub instance_in : List Ty → Key → Option Key
instance_in [] (part.Int (pos zero) ∷ []) = Some []
instance_in [] _ = None
instance_in (u ∷ us) j = Some j

abbrev pub content_of : BScalar → Option Content
content_of (bv.Snap d) = Some d
content_of _ = None

-- a key with the types of instances, where there are parameters, is a key of an instance
pub typed_key : (us : List Ty) (j : Key) → b.FitsKey (map base_for us) j → FitsKey us j
typed_key [] [] h = tt
typed_key [] (x ∷ j) h = absurd h
typed_key (u ∷ us) [] h = absurd h
typed_key (u ∷ us) (x ∷ j) h = (part_typed u x h.0, typed_key us j h.1)
  where
    part_typed : (u : Ty) (x : KeyPart) → b.base_of_part x ≡ base_for u → part_type x ≡ u
    part_typed ty.Int (part.Int n) h = refl
    part_typed ty.Bool (part.Bool n) h = refl
    part_typed ty.Ref (part.Ref n) h = refl
    part_typed _ (part.Int n) h = absurd (cc)
    part_typed _ (part.Bool n) h = absurd (cc)
    part_typed _ (part.Ref n) h = absurd (cc)

pub content_reads : (us : List Ty) → Reads (content_kind us) IsReducedContent
content_reads us = record {
  key_in = instance_in us;
  value_in = content_of;
  key_back = back us;
  key_there = there us;
  value_there = value;
  same_value = λ x y h. cc;
}
  where
    back : (us : List Ty) (a : Key) → FitsKey us a → instance_in us (instance_key a) ≡ Some a
    back [] [] h = refl
    back [] (x ∷ a) h = absurd h
    back (u ∷ us) [] h = absurd h
    back (u ∷ us) (x ∷ a) h = refl

    there : (us : List Ty) (j a : Key) → b.FitsKey (index_types us) j → instance_in us j ≡ Some a → (instance_key a ≡ j) × FitsKey us a
    there [] (part.Int (pos zero) ∷ []) [] fits h = (refl, tt)
    there [] (part.Int (pos zero) ∷ []) (x ∷ a) fits h = absurd (cc)
    there [] _ a fits h = absurd (none-some a h)
    there (u ∷ us) [] a fits h = absurd fits
    there (u ∷ us) (x ∷ j) a fits h = let same = same_Some _ _ h in (ap instance_key (sym same), subst (FitsKey (u ∷ us)) same (typed_key (u ∷ us) (x ∷ j) fits))

    value : (w : BScalar) → b.FitsScalar base.Snap w → (x : Content) × ((content_of w ≡ Some x) × ((bv.Snap x ≡ w) × IsReducedContent x))
    value (bv.Snap d) h = (d, (refl, (refl, h.reduced)))
    value (bv.Int n) h = let e = h.typed in absurd (cc)
    value (bv.Bool n) h = let e = h.typed in absurd (cc)
    value (bv.Ref n) h = let e = h.typed in absurd (cc)
    value (bv.Real n) h = let e = h.typed in absurd (cc)

-- what reads the values of heaps, and the keys and values of contents

pub heap_value_in : (u : Ty) (w : BScalar) → (heap_reads u).value_in w ≡ value_of u w
unfolding heap_reads
heap_value_in u w = refl

pub content_key_in : (us : List Ty) (j : Key) → (content_reads us).key_in j ≡ instance_in us j
unfolding content_reads
content_key_in us j = refl

pub content_value_in : (us : List Ty) (w : BScalar) → (content_reads us).value_in w ≡ content_of w
unfolding content_reads
content_value_in us w = refl

-- ---- a map of Viper from a map of Boogie

module _ {K V : Type 0} (k : MapKind K V) (z : IsKind k) {Fits : V → Type 0} (reads : Reads k Fits) where
  abbrev pub put_in : Option K → Option V → Map K V → Map K V
  put_in (Some a) (Some x) m = set k.cmp k.eq m a x
  put_in _ _ m = m

  abbrev pub read_entries : V → List (Key × BScalar) → Map K V
  read_entries d [] = empty d
  read_entries d (e ∷ es) = put_in (reads.key_in e.0) (reads.value_in e.1) (read_entries d es)

  -- what holds of the empty map, and of each map with one more entry that is read
  read_all : (P : Map K V → Type 0) (d : V) → P (empty d) → ((m : Map K V) (a : K) (x : V) (j : Key) (w : BScalar) → reads.key_in j ≡ Some a → reads.value_in w ≡ Some x → b.FitsKey k.keys j → b.FitsScalar k.base w → P m → P (set k.cmp k.eq m a x)) →
      (es : List (Key × BScalar)) → All (b.FitsKey k.keys) (keys_of es) → All (b.FitsScalar k.base) (values_of es) → P (read_entries d es)
  read_all P d first more [] hk hv = first
  read_all P d first more (e ∷ es) hk hv =
      by_key (read_all P d first more es (All-tail (b.FitsKey k.keys) e.0 (keys_of es) hk) (All-tail (b.FitsScalar k.base) e.1 (values_of es) hv)) (reads.key_in e.0) (reads.value_in e.1) refl refl
    where
      by_key : P (read_entries d es) → (o : Option K) (q : Option V) → reads.key_in e.0 ≡ o → reads.value_in e.1 ≡ q → P (put_in o q (read_entries d es))
      by_key rest (Some a) (Some x) ho hq = more (read_entries d es) a x e.0 e.1 ho hq (All-head (b.FitsKey k.keys) e.0 (keys_of es) hk) (All-head (b.FitsScalar k.base) e.1 (values_of es) hv) rest
      by_key rest (Some a) None ho hq = rest
      by_key rest None q ho hq = rest

  -- the same, of entries of which more is said
  read_said : (PK : Key → Type 0) (PV : BScalar → Type 0) (P : Map K V → Type 0) (d : V) → P (empty d) → ((m : Map K V) (a : K) (x : V) (j : Key) (w : BScalar) → reads.key_in j ≡ Some a → reads.value_in w ≡ Some x → PK j → PV w → P m → P (set k.cmp k.eq m a x)) →
      (es : List (Key × BScalar)) → All PK (keys_of es) → All PV (values_of es) → P (read_entries d es)
  read_said PK PV P d first more [] hk hv = first
  read_said PK PV P d first more (e ∷ es) hk hv =
      by_key (read_said PK PV P d first more es (All-tail PK e.0 (keys_of es) hk) (All-tail PV e.1 (values_of es) hv)) (reads.key_in e.0) (reads.value_in e.1) refl refl
    where
      by_key : P (read_entries d es) → (o : Option K) (q : Option V) → reads.key_in e.0 ≡ o → reads.value_in e.1 ≡ q → P (put_in o q (read_entries d es))
      by_key rest (Some a) (Some x) ho hq = more (read_entries d es) a x e.0 e.1 ho hq (All-head PK e.0 (keys_of es) hk) (All-head PV e.1 (values_of es) hv) rest
      by_key rest (Some a) None ho hq = rest
      by_key rest None q ho hq = rest

  pub said_keys : (PK : Key → Type 0) (PV : BScalar → Type 0) (Q : K → Type 0) → ((j : Key) (a : K) → reads.key_in j ≡ Some a → PK j → Q a) → (d : V) (es : List (Key × BScalar)) → All PK (keys_of es) → All PV (values_of es) →
      All Q (keys (read_entries d es))
  said_keys PK PV Q go d es hk hv = read_said PK PV (λ m. All Q (keys m)) d (All-nil Q) (λ m a x j w ho hq pk pv h. All-keys-set k.cmp k.eq m a x Q h (go j a ho pk)) es hk hv

  pub said_values : (PK : Key → Type 0) (PV : BScalar → Type 0) (Q : V → Type 0) → ((w : BScalar) (x : V) → reads.value_in w ≡ Some x → PV w → Q x) → (d : V) (es : List (Key × BScalar)) → All PK (keys_of es) → All PV (values_of es) →
      All Q (values (read_entries d es))
  said_values PK PV Q go d es hk hv = read_said PK PV (λ m. All Q (values m)) d (All-nil Q) (λ m a x j w ho hq pk pv h. All-values-set k.cmp k.eq m a x Q h (go w x hq pv)) es hk hv

  pub read_reduced : (d : V) (es : List (Key × BScalar)) → All (b.FitsKey k.keys) (keys_of es) → All (b.FitsScalar k.base) (values_of es) → IsReduced k.cmp k.eq (read_entries d es)
  read_reduced d es hk hv = read_all (IsReduced k.cmp k.eq) d (IsReduced-empty z.exact.total d) (λ m a x j w ho hq fk fv h. IsReduced-set z.exact.total m h a x) es hk hv

  pub read_default : (d : V) (es : List (Key × BScalar)) → All (b.FitsKey k.keys) (keys_of es) → All (b.FitsScalar k.base) (values_of es) → (read_entries d es).default ≡ d
  read_default d es hk hv = read_all (λ m. m.default ≡ d) d refl (λ m a x j w ho hq fk fv h. h) es hk hv

  pub read_keys : (d : V) (es : List (Key × BScalar)) → All (b.FitsKey k.keys) (keys_of es) → All (b.FitsScalar k.base) (values_of es) → All k.Counts (keys (read_entries d es))
  read_keys d es hk hv = read_all (λ m. All k.Counts (keys m)) d (All-nil k.Counts) (λ m a x j w ho hq fk fv h. All-keys-set k.cmp k.eq m a x k.Counts h (reads.key_there j a fk ho).1) es hk hv

  pub read_values : (d : V) (es : List (Key × BScalar)) → All (b.FitsKey k.keys) (keys_of es) → All (b.FitsScalar k.base) (values_of es) → All Fits (values (read_entries d es))
  read_values d es hk hv =
      read_all (λ m. All Fits (values m)) d (All-nil Fits)
      (λ m a x j w ho hq fk fv h. let there = reads.value_there w fv in All-values-set k.cmp k.eq m a x Fits h (subst Fits (same_Some _ _ (sym there.1.0 ∙ hq)) there.1.1.1)) es hk hv

  -- at each key that counts it has the value
  pub read_value : (d : V) (es : List (Key × BScalar)) (a : K) → All (b.FitsKey k.keys) (keys_of es) → All (b.FitsScalar k.base) (values_of es) → k.Counts a →
      k.code (get k.cmp (read_entries d es) a) ≡ unwrap_or (lookup (is_at (key_cmp (k.key a))) es) (k.code d)
  read_value d [] a hk hv counts = refl
  read_value d (e ∷ es) a hk hv counts =
      by_test (read_value d es a rest_keys rest_values counts) (read_reduced d es rest_keys rest_values) (is_at (key_cmp (k.key a)) e.0) refl
    where
      rest_keys : All (b.FitsKey k.keys) (keys_of es)
      rest_keys = All-tail (b.FitsKey k.keys) e.0 (keys_of es) hk

      rest_values : All (b.FitsScalar k.base) (values_of es)
      rest_values = All-tail (b.FitsScalar k.base) e.1 (values_of es) hv

      there : (x : V) × ((reads.value_in e.1 ≡ Some x) × ((k.code x ≡ e.1) × Fits x))
      there = reads.value_there e.1 (All-head (b.FitsScalar k.base) e.1 (values_of es) hv)

      m : Map K V
      m = read_entries d es

      -- another key leaves the value at this one
      beside : (k.key a ≡ e.0 → ⊥) → IsReduced k.cmp k.eq m → (o : Option K) (q : Option V) → reads.key_in e.0 ≡ o → get k.cmp (put_in o q m) a ≡ get k.cmp m a
      beside other tidy (Some c) (Some x) ho = get-set_other z.exact m tidy c a x (λ same. other (ap k.key (sym same) ∙ (reads.key_there e.0 c (All-head (b.FitsKey k.keys) e.0 (keys_of es) hk) ho).0))
      beside other tidy (Some c) None ho = refl
      beside other tidy None q ho = refl

      by_test : k.code (get k.cmp m a) ≡ unwrap_or (lookup (is_at (key_cmp (k.key a))) es) (k.code d) → IsReduced k.cmp k.eq m → (t : Truth) → is_at (key_cmp (k.key a)) e.0 ≡ t →
          k.code (get k.cmp (put_in (reads.key_in e.0) (reads.value_in e.1) m) a) ≡ unwrap_or (lookup (is_at (key_cmp (k.key a))) (e ∷ es)) (k.code d)
      by_test rest tidy true h =
          let same : k.key a ≡ e.0 = exact.keys (k.key a) e.0 ((Equal-is (key_cmp (k.key a) e.0)).0 h) in
          let found : reads.key_in e.0 ≡ Some a = ap reads.key_in (sym same) ∙ reads.key_back a counts in
          ap (λ (o : Option K). k.code (get k.cmp (put_in o (reads.value_in e.1) m) a)) found ∙ ap (λ (q : Option V). k.code (get k.cmp (put_in (Some a) q m) a)) there.1.0 ∙ ap k.code (get-set_same z.exact m tidy a there.0) ∙ there.1.1.0
          ∙ sym (ap (λ (t : Truth). unwrap_or (if t then Some e.1 else lookup (is_at (key_cmp (k.key a))) es) (k.code d)) h)
      by_test rest tidy false h =
          let other : k.key a ≡ e.0 → ⊥ = λ same. true≢false (sym (at_itself exact.total (k.key a)) ∙ ap (λ j. is_at (key_cmp (k.key a)) j) same ∙ h) in
          ap k.code (beside other tidy (reads.key_in e.0) (reads.value_in e.1) refl) ∙ rest
          ∙ sym (ap (λ (t : Truth). unwrap_or (if t then Some e.1 else lookup (is_at (key_cmp (k.key a))) es) (k.code d)) h)

  -- the map of Viper that a map of Boogie of this type stands for
  pub record IsRead (d : V) (image : Map Key BScalar) (m : Map K V) : Type 0 where
    pub default : m.default ≡ d
    pub reduced : IsReduced k.cmp k.eq m
    pub keys : All k.Counts (keys m)
    pub values : All Fits (values m)
    pub same : (a : K) → k.Counts a → get key_cmp image (k.key a) ≡ k.code (get k.cmp m a)
    pub made : m ≡ read_entries d image.entries

  pub read_map : (d : V) (image : Map Key BScalar) → k.code d ≡ b.default_of k.base → b.IsMapOf k.keys k.base image → (m : Map K V) × IsRead d image m
  read_map d image default typed = (
    read_entries d image.entries,
    record {
      default = read_default d image.entries typed.keys typed.values;
      reduced = read_reduced d image.entries typed.keys typed.values;
      keys = read_keys d image.entries typed.keys typed.values;
      values = read_values d image.entries typed.keys typed.values;
      same = λ a counts. sym (read_value d image.entries a typed.keys typed.values counts ∙ ap (λ (w : BScalar). unwrap_or (lookup (is_at (key_cmp (k.key a))) image.entries) w) (default ∙ sym typed.default));
      made = refl;
    },
  )

-- ---- entries of Boogie from a map of Viper

module _ {K V : Type 0} (k : MapKind K V) (z : IsKind k) where
  abbrev pub entries_for : List (K × V) → List Entry
  entries_for es = map {B = Entry} (λ (e : K × V). record { key = k.key e.0; value = k.code e.1 }) es

  pub fit_entries : (es : List (K × V)) → All k.Counts (keys_of es) → All (λ x. b.FitsScalar k.base (k.code x)) (values_of es) → fits_entries k.keys k.base (entries_for es) ≡ true
  fit_entries [] hk hv = refl
  fit_entries (e ∷ es) hk hv =
      let one = (Decides-fits_key k.keys (k.key e.0)).1 (z.fits e.0 (All-head k.Counts e.0 (keys_of es) hk)) in
      let scalar = All-head (λ x. b.FitsScalar k.base (k.code x)) e.1 (values_of es) hv in
      let two = (Decides-same_base (b.base_of_scalar (k.code e.1)) k.base).1 scalar.typed in
      let rest = fit_entries es (All-tail k.Counts e.0 (keys_of es) hk) (All-tail (λ x. b.FitsScalar k.base (k.code x)) e.1 (values_of es) hv) in
      all_true one two rest
    where
      all_true : {p q r : Truth} → p ≡ true → q ≡ true → r ≡ true → ((p && q) && r) ≡ true
      all_true h i j = rw (h, i, j) refl

  -- a key that is none of theirs keeps its value
  filled_other : (m : Map Key BScalar) (es : List (K × V)) (j : Key) → IsReduced key_cmp same_scalar m → All (λ a. k.key a ≢ j) (keys_of es) → get key_cmp (filled m (entries_for es)) j ≡ get key_cmp m j
  filled_other m [] j tidy other = refl
  filled_other m (e ∷ es) j tidy other =
      filled_other (set key_cmp same_scalar m (k.key e.0) (k.code e.1)) es j (IsReduced-set exact.total m tidy (k.key e.0) (k.code e.1)) (All-tail (λ a. k.key a ≢ j) e.0 (keys_of es) other)
      ∙ get-set_other exact m tidy (k.key e.0) j (k.code e.1) (All-head (λ a. k.key a ≢ j) e.0 (keys_of es) other)

  -- each key is told apart from a later one
  later_apart : (a : K) (ds : List K) → k.Counts a → All k.Counts ds → AllByRecursion (λ c. k.cmp a c ≡ Less) ds → All (λ c. k.key c ≢ k.key a) ds
  later_apart a [] counts all less = All-nil (λ c. k.key c ≢ k.key a)
  later_apart a (c ∷ ds) counts all less =
      All-cons (λ c. k.key c ≢ k.key a) c ds (λ same. below a c (z.apart c a (All-head k.Counts c ds all) counts same) less.0)
      (later_apart a ds counts (All-tail k.Counts c ds all) less.1)
    where
      below : (a c : K) → c ≡ a → k.cmp a c ≡ Less → ⊥
      below a c same less = let e : is_at (k.cmp a) a ≡ false = ap is_eq (ap (k.cmp a) (sym same) ∙ less) in true≢false (sym (at_itself z.exact.total a) ∙ e)

  -- and each of theirs has the value
  filled_value : (m : Map Key BScalar) (es : List (K × V)) (a : K) → IsReduced key_cmp same_scalar m → All k.Counts (keys_of es) → IsStrictlySortedBy k.cmp (keys_of es) → k.Counts a →
      get key_cmp (filled m (entries_for es)) (k.key a) ≡ unwrap_or (option_map k.code (lookup (is_at (k.cmp a)) es)) (get key_cmp m (k.key a))
  unfolding IsStrictlySortedBy
  filled_value m [] a tidy all sorted counts = refl
  filled_value m (e ∷ es) a tidy all sorted counts =
      by_test (filled_value (set key_cmp same_scalar m (k.key e.0) (k.code e.1)) es a (IsReduced-set exact.total m tidy (k.key e.0) (k.code e.1)) (All-tail k.Counts e.0 (keys_of es) all) sorted.1 counts) (is_at (k.cmp a) e.0) refl
    where
      n : Map Key BScalar
      n = set key_cmp same_scalar m (k.key e.0) (k.code e.1)

      by_test : get key_cmp (filled n (entries_for es)) (k.key a) ≡ unwrap_or (option_map k.code (lookup (is_at (k.cmp a)) es)) (get key_cmp n (k.key a)) → (t : Truth) → is_at (k.cmp a) e.0 ≡ t →
          get key_cmp (filled n (entries_for es)) (k.key a) ≡ unwrap_or (option_map k.code (lookup (is_at (k.cmp a)) (e ∷ es))) (get key_cmp m (k.key a))
      by_test rest true h =
          let same : a ≡ e.0 = z.exact.keys a e.0 ((Equal-is (k.cmp a e.0)).0 h) in
          filled_other n es (k.key a) (IsReduced-set exact.total m tidy (k.key e.0) (k.code e.1))
          (subst (λ c. All (λ d. k.key d ≢ k.key c) (keys_of es)) (sym same) (later_apart e.0 (keys_of es) (All-head k.Counts e.0 (keys_of es) all) (All-tail k.Counts e.0 (keys_of es) all) sorted.0))
          ∙ ap (λ c. get key_cmp n (k.key c)) same ∙ get-set_same exact m tidy (k.key e.0) (k.code e.1)
          ∙ sym (ap (λ (t : Truth). unwrap_or (option_map k.code (if t then Some e.1 else lookup (is_at (k.cmp a)) es)) (get key_cmp m (k.key a))) h)
      by_test rest false h =
          let other : k.key e.0 ≢ k.key a = λ same. true≢false (sym (at_itself z.exact.total a) ∙ ap (λ c. is_at (k.cmp a) c) (sym (z.apart e.0 a (All-head k.Counts e.0 (keys_of es) all) counts same)) ∙ h) in
          rest ∙ ap (unwrap_or (option_map k.code (lookup (is_at (k.cmp a)) es))) (get-set_other exact m tidy (k.key e.0) (k.key a) (k.code e.1) other)
          ∙ sym (ap (λ (t : Truth). unwrap_or (option_map k.code (if t then Some e.1 else lookup (is_at (k.cmp a)) es)) (get key_cmp m (k.key a))) h)

  -- The map that is given by the entries of a map of Viper.
  pub given_value : (m : Map K V) (a : K) → IsReduced k.cmp k.eq m → All k.Counts (keys m) → k.code m.default ≡ b.default_of k.base → k.Counts a →
      get key_cmp (filled (empty (b.default_of k.base)) (entries_for m.entries)) (k.key a) ≡ k.code (get k.cmp m a)
  given_value m a tidy all default counts =
      filled_value (empty (b.default_of k.base)) m.entries a (IsReduced-empty exact.total (b.default_of k.base)) all tidy.ascending counts
      ∙ ap (unwrap_or (option_map k.code (lookup (is_at (k.cmp a)) m.entries))) (sym default) ∙ through (lookup (is_at (k.cmp a)) m.entries)
    where
      through : (o : Option V) → unwrap_or (option_map k.code o) (k.code m.default) ≡ k.code (unwrap_or o m.default)
      through (Some x) = refl
      through None = refl

-- ---- what a choice of proper entries gives

module _ (bd : Bound) where
  filled_proper : (m : Map Key BScalar) (es : List Entry) → All (IsProperKey bd) (keys m) → All (IsProperScalar bd) (values m) → All (IsProperEntry bd) es →
      All (IsProperKey bd) (keys (filled m es)) × All (IsProperScalar bd) (values (filled m es))
  filled_proper m [] hk hv all = (hk, hv)
  filled_proper m (e ∷ es) hk hv all =
      let first = All-head (IsProperEntry bd) e es all in
      filled_proper (set key_cmp same_scalar m e.key e.value) es (All-keys-set key_cmp same_scalar m e.key e.value (IsProperKey bd) hk first.0) (All-values-set key_cmp same_scalar m e.key e.value (IsProperScalar bd) hv first.1)
      (All-tail (IsProperEntry bd) e es all)

  pub chosen_proper : (u : BBase) (us : List BBase) (w : BBase) (c : BChoice) (image : Map Key BScalar) → IsProperMove bd c → chosen (record { keys = u ∷ us; base = w }) c ≡ Some (Many image) →
      All (IsProperKey bd) (keys image) × All (IsProperScalar bd) (values image)
  chosen_proper u us w (bv.Pick q) image h e = absurd (cc)
  chosen_proper u us w (bv.Value x) image h e = absurd (cc)
  chosen_proper u us w (bv.Entries es) image h e = by_test (fits_entries (u ∷ us) w es) e
    where
      n : Map Key BScalar
      n = filled (empty (b.default_of w)) es

      by_test : (t : Truth) → (if t then Some (Many n) else None) ≡ Some (Many image) → All (IsProperKey bd) (keys image) × All (IsProperScalar bd) (values image)
      by_test true e =
          let same : n ≡ image = cc in
          subst (λ m. All (IsProperKey bd) (keys m) × All (IsProperScalar bd) (values m)) same (filled_proper (empty (b.default_of w)) es (All-nil (IsProperKey bd)) (All-nil (IsProperScalar bd)) h)
      by_test false e = absurd (cc)
