-- The first locals of a unit's procedure hold an opening: from values of their types one is read back, and the values of an opening,
-- with defaults behind them, hold it.
use Rattle.std.proofs.Common.{◌≡◌, ◌<◌, ◌≤◌, ◌+◌, ℕ, zero, suc, Bool as Truth, true, false, List, [], ◌∷◌, ◌++◌, map, drop, length, length-append, All, Option, Some, None, slice_get, if◌then◌else◌, refl, sym, ap, subst, ◌∙◌, arith}
use Rattle.std.specs.BTreeMap.{is_at}
use Rattle.std.specs.Cmp.{Equal-is}
use Rattle.std.specs.List.{AllZip}
use Rattle.std.specs.Map.{keys_of, lookup}
use Rattle.std.specs.Option.{option_map}
use Rattle.std.specs.Prelude.{unwrap_or}
use Rattle.std.proofs.lemmas.Bool.{true≢false}
use Rattle.std.proofs.lemmas.Option.{slice_get_within}
use Rattle.std.proofs.lemmas.List.{length-map}
use Rattle.std.proofs.lemmas.List.Elements.{All-head, All-tail}
use Rattle.lemmas.proofs.Lists.{there_left, zip_length, mapped_at}
use Rattle.lemmas.proofs.Orders.{at_itself}
use Rattle.sparse.specs.Map.{Map, empty, get, keys}
use Rattle.sparse.specs.Meaning.{meaning_of}
use Rattle.vb_value.specs.Content as content
use Rattle.vb_value.specs.Fraction.{none}
use Rattle.vb_value.specs.Key.{key_cmp}
use Rattle.vb_value.specs.Value.{default_of, type_of}
use Rattle.vb_value.specs.declared.values.Ty.{Ty}
use Rattle.vb_value.specs.declared.values.Value.{Value}
use Rattle.viper_core.specs.Program.{Program}
use Rattle.viper_core.specs.declared.programs.Unit.{Unit}
use Rattle.viper_state.specs.Fits.{FitsValue, FitsHeap, FitsContents, FitsStore, FitsOpening}
use Rattle.viper_state.specs.Run.{Opening}
use Rattle.boogie_tree.specs.Program.{BType}
use Rattle.boogie_tree.specs.Value.{Key, BScalar, Real, Snap, BValue, One, Many}
use Rattle.boogie_tree.specs.Values.{FitsScalar, IsMapOf, IsOfType, one, many, IsEnvironment, map_type}
use Rattle.boogie_tree.specs.declared.exprs.BBase.{BBase}
use Rattle.boogie_tree.specs.declared.exprs.BBase.TheVariants as base
use Rattle.boogie_meaning.specs.Programs.{default_value}
use Rattle.boogie_meaning.proofs.ValueLaws.{found_typed, exact, default_typed}
use Rattle.moves.specs.Scalars.{scalar, base_for, variable_type}
use Rattle.moves.specs.Maps.{place_key, instance_key, index_types, heap_type, amount_type, content_type}
use Rattle.moves.proofs.MapLaws.{heap_of_type, contents_of_type}
use Rattle.enc_expr.specs.Coupling.{Env, MapKind, HasMap, heap_kind, content_kind}
use Rattle.enc_expr.specs.Front.{types_of, front_types, front_values}
use Rattle.enc_expr.specs.Locals.{fixed_types}
use Rattle.enc_expr.specs.Place.{number, Heap, Content as ContentAt, local_at}
use Rattle.enc_expr.proofs.FrameLaws.{map_moved}
use Rattle.enc_expr.proofs.FrontValues.{front_fits}
use Rattle.enc_expr.proofs.MapLaws.{IsKind, heap_is_kind, content_is_kind}
use Rattle.enc_assert.proofs.DecodeLaws.{heap_reads, content_reads, read_map}
use Rattle.enc_assert.proofs.ForgetStep.{default_scalar}
use Rattle.enc_units.specs.Units.{zero_mask, home_of, HoldsOpening, HasZeros, started}
use Rattle.enc_units.proofs.StartLaws.{at_same}
use Rattle.enc_units.proofs.UnitHomeLaws.{get_from, given_number, given_type, heap_is, content_is, zero_is, zero_amount_is, front_length, fixed_length, now_is, held_on}

-- ---- values of their types

as_one : {v : BValue} {w : BBase} → IsOfType v (record { keys = []; base = w }) → (x : BScalar) × ((v ≡ One x) × FitsScalar w x)
as_one (one {v = x} fits) = (x, (refl, fits))

as_map : {v : BValue} {w k : BBase} {ks : List BBase} → IsOfType v (record { keys = k ∷ ks; base = w }) → (m : Map Key BScalar) × ((v ≡ Many m) × IsMapOf (k ∷ ks) w m)
as_map (many {m = m} typed) = (m, (refl, typed))

-- ---- variables

record AreRead (ws : List Ty) (i : ℕ) (E : Env) : Type 0 where
  pub values : List Value
  pub fits : FitsStore ws values
  pub there : (x : ℕ) (w : Ty) → slice_get ws x ≡ Some w → (v : Value) × ((slice_get values x ≡ Some v) × ((type_of v ≡ w) × (slice_get E (i + x) ≡ Some (One (scalar v)))))

values_read : (ws : List Ty) (i : ℕ) (E : Env) → ((x : ℕ) (w : Ty) → slice_get ws x ≡ Some w → (v : BValue) × ((slice_get E (i + x) ≡ Some v) × IsOfType v (variable_type w))) → AreRead ws i E
values_read [] i E h = record { values = []; fits = tt; there = λ x w there. absurd (cc) }
values_read (w ∷ ws) i E h =
    let first = h 0 w refl in let own = as_one first.1.1 in let back = (heap_reads w).value_there own.0 own.1.1 in
    let rest = values_read ws (i + 1) E (λ x z there. let o = h (suc x) z there in (o.0, (at_same E (i + 1 + x) (i + suc x) o.0 (omega arith) o.1.0, o.1.1))) in
    let here : slice_get E (i + 0) ≡ Some (One (scalar back.0)) = first.1.0 ∙ (ap Some own.1.0 ∙ ap (λ (z : BScalar). Some (One z)) (sym back.1.1.0)) in
    record {
      values = back.0 ∷ rest.values;
      fits = (back.1.1.1, rest.fits);
      there = λ x z there. by_place back.0 back.1.1.1.typed here rest x z there;
    }
  where
    by_place : (v : Value) → type_of v ≡ w → slice_get E (i + 0) ≡ Some (One (scalar v)) → (rest : AreRead ws (i + 1) E) → (x : ℕ) (z : Ty) → slice_get (w ∷ ws) x ≡ Some z →
        (y : Value) × ((slice_get (v ∷ rest.values) x ≡ Some y) × ((type_of y ≡ z) × (slice_get E (i + x) ≡ Some (One (scalar y)))))
    by_place v typed here rest zero z there = let e : w ≡ z = cc in (v, (refl, (typed ∙ e, here)))
    by_place v typed here rest (suc x) z there = let o = rest.there x z there in (o.0, (o.1.0, (o.1.1.0, at_same E (i + suc x) (i + 1 + x) (One (scalar o.0)) (omega arith) o.1.1.1)))

-- ---- maps

module _ {U K V : Type 0} (kind : U → MapKind K V) (FitsIt : U → Map K V → Type 0) (n : ℕ) (E : Env) where
  -- the local x holds a map, in whichever list it stands
  record IsMapRead (w : U) (x : ℕ) : Type 0 where
    pub m : Map K V
    pub fits : FitsIt w m
    pub has : (maps : List (Map K V)) (c : ℕ) → slice_get maps c ≡ Some m → HasMap (kind w) n x maps c E

  -- maps of one kind, one for each local from i on
  record AreMapsRead (ws : List U) (i : ℕ) : Type 0 where
    pub maps : List (Map K V)
    pub fits : AllZip FitsIt ws maps
    pub have : (c : ℕ) (w : U) → slice_get ws c ≡ Some w → (m : Map K V) × ((slice_get maps c ≡ Some m) × ((all : List (Map K V)) (d : ℕ) → slice_get all d ≡ Some m → HasMap (kind w) n (i + c) all d E))

  all_read : (ws : List U) (i : ℕ) → ((c : ℕ) (w : U) → slice_get ws c ≡ Some w → (x : ℕ) → x ≡ i + c → IsMapRead w x) → AreMapsRead ws i
  all_read [] i h = record { maps = []; fits = tt; have = λ c w there. absurd (cc) }
  all_read (w ∷ ws) i h =
      let first = h 0 w refl (i + 0) refl in
      let rest = all_read ws (i + 1) (λ c z there x e. h (suc c) z there x (omega (arith, e))) in
      record { maps = first.m ∷ rest.maps; fits = (first.fits, rest.fits); have = λ c z there. by_place first rest c z there }
    where
      by_place : (first : IsMapRead w (i + 0)) (rest : AreMapsRead ws (i + 1)) (c : ℕ) (z : U) → slice_get (w ∷ ws) c ≡ Some z →
          (m : Map K V) × ((slice_get (first.m ∷ rest.maps) c ≡ Some m) × ((all : List (Map K V)) (d : ℕ) → slice_get all d ≡ Some m → HasMap (kind z) n (i + c) all d E))
      by_place first rest zero z there =
          let e : w ≡ z = cc in (first.m, (refl, λ all d at. subst (λ y. HasMap (kind y) n (i + 0) all d E) e (first.has all d at)))
      by_place first rest (suc c) z there =
          let o = rest.have c z there in let e : i + 1 + c ≡ i + suc c = omega arith in (o.0, (o.1.0, λ all d at. subst (λ x. HasMap (kind z) n x all d E) e (o.1.1 all d at)))

heap_read : (n : ℕ) (E : Env) (w : Ty) (x : ℕ) (image : Map Key BScalar) → x < n → slice_get E x ≡ Some (Many image) → IsMapOf (base.Ref ∷ []) (base_for w) image → IsMapRead heap_kind FitsHeap n E w x
heap_read n E w x image below here typed =
    let r = read_map (heap_kind w) (heap_is_kind w) (heap_reads w) (default_of w) image (default_scalar w) typed in
    record {
      m = r.0;
      fits = record { default = r.1.default; reduced = r.1.reduced; keys = r.1.keys; values = r.1.values };
      has = λ maps c there. record { m = r.0; there = there; tidy = r.1.reduced; below = below; image = image; here = here; typed = typed; same = r.1.same; rests = λ j other. tt };
    }

content_read : (n : ℕ) (E : Env) (us : List Ty) (x : ℕ) (image : Map Key BScalar) → x < n → slice_get E x ≡ Some (Many image) → IsMapOf (index_types us) base.Snap image → IsMapRead content_kind FitsContents n E us x
content_read n E us x image below here typed =
    let r = read_map (content_kind us) (content_is_kind us) (content_reads us) content.Unit image refl typed in
    record {
      m = r.0;
      fits = record { default = r.1.default; reduced = r.1.reduced; keys = r.1.keys; values = r.1.values };
      has = λ maps c there. record { m = r.0; there = there; tidy = r.1.reduced; below = below; image = image; here = here; typed = typed; same = r.1.same; rests = λ j other. tt };
    }

-- ---- an opening is read back

module _ (p : Program) (u : Unit) (us : List BType) where
  abbrev ts : List BType
  ts = fixed_types p u ++ us

  abbrev n : ℕ
  n = length (fixed_types p u)

  abbrev given : ℕ
  given = length (types_of p u)

  abbrev fields : ℕ
  fields = length p.layout.fields

  pub record IsOpened (E : Env) : Type 0 where
    pub opening : Opening
    pub fits : FitsOpening p.layout (types_of p u) opening
    pub holds : HoldsOpening p u opening E

  -- it is the local of a variable, a heap, contents
  fixed_at : (E : Env) → IsEnvironment ts E → (x i : ℕ) (w : BType) → x ≡ i → slice_get (fixed_types p u) i ≡ Some w → (v : BValue) × ((slice_get E x ≡ Some v) × IsOfType v w)
  fixed_at E env x i w e there = let o = found_typed ts E x w env (at_same ts x i w e (there_left (fixed_types p u) us i w there)) in (o.0, (o.1, o.2))

  pub opening_read : (E : Env) → IsEnvironment ts E → IsOpened E
  opening_read E env = record {
    opening = record { store = vars.values; memo = record { heap = heaps.maps; content = contents.maps } };
    fits = record { store = vars.fits; memo = record { heap = heaps.fits; content = contents.fits } };
    holds = record {
      vars = λ x w there.
          let o = vars.there x w there in let low = slice_get_within (types_of p u) x w there in
          record {
            v = o.0;
            there = o.1.0;
            typed = o.1.1.0;
            below = omega (arith, given_number p u x low, low, fixed_length p u);
            here = at_same E (number (home_of p u).vars x) (0 + x) (One (scalar o.0)) (omega (arith, given_number p u x low)) o.1.1.1;
          };
      heap = λ f w there.
          let o = heaps.have f w there in let low = slice_get_within p.layout.fields f w there in
          map_moved {E = E} {F = E} (omega (arith, now_is p u (Heap f) low, low, fixed_length p u)) (ap (slice_get E) (now_is p u (Heap f) low)) (o.1.1 heaps.maps f o.1.0);
      content = λ q ws there.
          let o = contents.have q ws there in let low = slice_get_within p.layout.keys q ws there in
          map_moved {E = E} {F = E} (omega (arith, now_is p u (ContentAt q) low, low, fixed_length p u)) (ap (slice_get E) (now_is p u (ContentAt q) low)) (o.1.1 contents.maps q o.1.0);
    };
  }
    where
      vars : AreRead (types_of p u) 0 E
      vars = values_read (types_of p u) 0 E (λ x w there. fixed_at E env (0 + x) x (variable_type w) (omega arith) (given_type p u x w there))

      heap : (f : ℕ) (w : Ty) → slice_get p.layout.fields f ≡ Some w → (x : ℕ) → x ≡ given + f → IsMapRead heap_kind FitsHeap n E w x
      heap f w there x e =
          let o = fixed_at E env x (given + f) (heap_type w) e (heap_is p u f w there) in let m = as_map o.1.1 in
          heap_read n E w x m.0 (omega (arith, e, slice_get_within p.layout.fields f w there, fixed_length p u)) (o.1.0 ∙ ap Some m.1.0) m.1.1

      heaps : AreMapsRead heap_kind FitsHeap n E p.layout.fields given
      heaps = all_read heap_kind FitsHeap n E p.layout.fields given heap

      content_by : (q : ℕ) (ws : List Ty) → slice_get p.layout.keys q ≡ Some ws → (x : ℕ) → x ≡ given + fields + q → (v : BValue) → slice_get E x ≡ Some v → (m : Map Key BScalar) × ((v ≡ Many m) × IsMapOf (index_types ws) base.Snap m) →
          IsMapRead content_kind FitsContents n E ws x
      content_by q ws there x e v at m = content_read n E ws x m.0 (omega (arith, e, slice_get_within p.layout.keys q ws there, fixed_length p u)) (at ∙ ap Some m.1.0) m.1.1

      as_content : {v : BValue} (ws : List Ty) → IsOfType v (content_type ws) → (m : Map Key BScalar) × ((v ≡ Many m) × IsMapOf (index_types ws) base.Snap m)
      as_content [] typed = as_map typed
      as_content (w ∷ ws) typed = as_map typed

      contents : AreMapsRead content_kind FitsContents n E p.layout.keys (given + fields)
      contents = all_read content_kind FitsContents n E p.layout.keys (given + fields)
          (λ q ws there x e. let o = fixed_at E env x (given + fields + q) (content_type ws) e (content_is p u q ws there) in content_by q ws there x e o.0 o.1.0 (as_content ws o.1.1))

-- ---- the values of an opening

-- a map of what the keys and values of another mean
module _ {K V : Type 0} (k : MapKind K V) (z : IsKind k) where
  same_test : (a c : K) → k.Counts a → k.Counts c → is_at (key_cmp (k.key a)) (k.key c) ≡ is_at (k.cmp a) c
  same_test a c ha hc = by_test (is_at (k.cmp a) c) refl (is_at (key_cmp (k.key a)) (k.key c)) refl
    where
      by_test : (t : Truth) → is_at (k.cmp a) c ≡ t → (q : Truth) → is_at (key_cmp (k.key a)) (k.key c) ≡ q → is_at (key_cmp (k.key a)) (k.key c) ≡ is_at (k.cmp a) c
      by_test true h true g = g ∙ sym h
      by_test false h false g = g ∙ sym h
      by_test true h false g =
          let same : a ≡ c = z.exact.keys a c ((Equal-is (k.cmp a c)).0 h) in
          absurd (true≢false (sym (at_itself exact.total (k.key a)) ∙ (ap (λ d. is_at (key_cmp (k.key a)) (k.key d)) same ∙ g)))
      by_test false h true g =
          let same : a ≡ c = z.apart a c ha hc (exact.keys (k.key a) (k.key c) ((Equal-is (key_cmp (k.key a) (k.key c))).0 g)) in
          absurd (true≢false (sym (at_itself z.exact.total a) ∙ (ap (λ d. is_at (k.cmp a) d) same ∙ h)))

  abbrev meant : List (K × V) → List (Key × BScalar)
  meant es = map {B = Key × BScalar} (λ (e : K × V). (k.key e.0, k.code e.1)) es

  lookup_meant : (es : List (K × V)) (a : K) → All k.Counts (keys_of es) → k.Counts a → lookup (is_at (key_cmp (k.key a))) (meant es) ≡ option_map k.code (lookup (is_at (k.cmp a)) es)
  lookup_meant [] a all counts = refl
  lookup_meant (e ∷ es) a all counts =
      ap (λ (t : Truth). if t then Some (k.code e.1) else lookup (is_at (key_cmp (k.key a))) (meant es)) (same_test a e.0 counts (All-head k.Counts e.0 (keys_of es) all))
      ∙ by_test (is_at (k.cmp a) e.0) (lookup_meant es a (All-tail k.Counts e.0 (keys_of es) all) counts)
    where
      by_test : (t : Truth) → lookup (is_at (key_cmp (k.key a))) (meant es) ≡ option_map k.code (lookup (is_at (k.cmp a)) es) →
          (if t then Some (k.code e.1) else lookup (is_at (key_cmp (k.key a))) (meant es)) ≡ option_map k.code (if t then Some e.1 else lookup (is_at (k.cmp a)) es)
      by_test true rest = refl
      by_test false rest = rest

  meant_value : (m : Map K V) (a : K) → All k.Counts (keys m) → k.Counts a → get key_cmp (meaning_of k.key k.code m) (k.key a) ≡ k.code (get k.cmp m a)
  meant_value m a all counts = ap (λ o. unwrap_or o (k.code m.default)) (lookup_meant m.entries a all counts) ∙ through (lookup (is_at (k.cmp a)) m.entries)
    where
      through : (o : Option V) → unwrap_or (option_map k.code o) (k.code m.default) ≡ k.code (unwrap_or o m.default)
      through (Some x) = refl
      through None = refl

zip_get : {A C : Type 0} (R : A → C → Type 0) (xs : List A) (ys : List C) (i : ℕ) (x : A) → AllZip R xs ys → slice_get xs i ≡ Some x → (y : C) × ((slice_get ys i ≡ Some y) × R x y)
zip_get R [] ys i x h there = absurd (cc)
zip_get R (a ∷ xs) [] i x h there = absurd h
zip_get R (a ∷ xs) (y ∷ ys) zero x h there = let e : a ≡ x = cc in (y, (refl, subst (λ c. R c y) e h.0))
zip_get R (a ∷ xs) (y ∷ ys) (suc i) x h there = zip_get R xs ys i x h.1 there

-- behind the values that are given stand defaults
started_behind : (vs : List BValue) (ts : List BType) (i : ℕ) (w : BType) → length vs ≤ i → slice_get ts i ≡ Some w → slice_get (started ts vs) i ≡ Some (default_value w)
started_behind [] ts i w low there = mapped_at default_value ts i w there
started_behind (v ∷ vs) [] i w low there = absurd (cc)
started_behind (v ∷ vs) (t ∷ ts) zero w low there = absurd (omega (arith, low))
started_behind (v ∷ vs) (t ∷ ts) (suc i) w low there = started_behind vs ts i w (omega (arith, low)) there

defaults_fit : (ts : List BType) → IsEnvironment ts (map default_value ts)
defaults_fit [] = tt
defaults_fit (t ∷ ts) = (default_typed t.keys t.base, defaults_fit ts)

started_fits : (fs rest : List BType) (vs : List BValue) → IsEnvironment fs vs → IsEnvironment (fs ++ rest) (started (fs ++ rest) vs)
started_fits [] rest [] h = defaults_fit rest
started_fits [] rest (v ∷ vs) h = absurd h
started_fits (f ∷ fs) rest [] h = absurd h
started_fits (f ∷ fs) rest (v ∷ vs) h = (h.0, started_fits fs rest vs h.1)

assoc : {X : Type 0} (xs ys zs : List X) → (xs ++ ys) ++ zs ≡ xs ++ (ys ++ zs)
assoc [] ys zs = refl
assoc (x ∷ xs) ys zs = ap (λ ws. x ∷ ws) (assoc xs ys zs)

module _ (p : Program) (u : Unit) (us : List BType) (o : Opening) (fits : FitsOpening p.layout (types_of p u) o) where
  abbrev start_types : List BType
  start_types = fixed_types p u ++ us

  abbrev start : Env
  start = started (fixed_types p u ++ us) (front_values o)

  -- as long as the types of the first locals
  values_length : length (front_values o) ≡ length (front_types p u)
  values_length = sym (zip_length (λ w v. IsOfType v w) (front_types p u) (front_values o) (front_fits p u o fits))

  given_there : (i : ℕ) (v : BValue) → slice_get (front_values o) i ≡ Some v → slice_get start i ≡ Some v
  given_there i v there = there_left (front_values o) (map default_value (drop (length (front_values o)) (fixed_types p u ++ us))) i v there

  abbrev variables : List BValue
  variables = map (λ v. One (scalar v)) o.store

  abbrev heaps : List BValue
  heaps = map (λ h. Many (meaning_of place_key scalar h)) o.memo.heap

  abbrev contents : List BValue
  contents = map (λ c. Many (meaning_of instance_key Snap c)) o.memo.content

  store_length : length variables ≡ length (types_of p u)
  store_length = length-map o.store (λ v. One (scalar v)) ∙ sym (zip_length FitsValue (types_of p u) o.store fits.store)

  heaps_length : length heaps ≡ length p.layout.fields
  heaps_length = length-map o.memo.heap (λ h. Many (meaning_of place_key scalar h)) ∙ sym (zip_length FitsHeap p.layout.fields o.memo.heap fits.memo.heap)

  pub opening_holds : HoldsOpening p u o start
  opening_holds = record {
    vars = λ x w there.
        let v = zip_get FitsValue (types_of p u) o.store x w fits.store there in let low = slice_get_within (types_of p u) x w there in
        record {
          v = v.0;
          there = v.1.0;
          typed = v.1.1.typed;
          below = omega (arith, given_number p u x low, low, fixed_length p u);
          here = at_same start (number (home_of p u).vars x) x (One (scalar v.0)) (given_number p u x low)
              (given_there x (One (scalar v.0)) (there_left (variables ++ heaps) contents x (One (scalar v.0)) (there_left variables heaps x (One (scalar v.0)) (mapped_at (λ v. One (scalar v)) o.store x v.0 v.1.0))));
        };
    heap = λ f w there.
        let m = zip_get FitsHeap p.layout.fields o.memo.heap f w fits.memo.heap there in let low = slice_get_within p.layout.fields f w there in
        let image : Map Key BScalar = meaning_of place_key scalar m.0 in
        let at : ℕ = length (types_of p u) + f in
        record {
          m = m.0;
          there = m.1.0;
          tidy = m.1.1.reduced;
          below = omega (arith, now_is p u (Heap f) low, low, fixed_length p u);
          image = image;
          here = at_same start (local_at (home_of p u).now (Heap f)) at (Many image) (now_is p u (Heap f) low)
              (given_there at (Many image) (there_left (variables ++ heaps) contents at (Many image)
              (get_from variables heaps (length (types_of p u)) at f (Many image) store_length refl (mapped_at (λ h. Many (meaning_of place_key scalar h)) o.memo.heap f m.0 m.1.0))));
          typed = heap_of_type w m.0 m.1.1;
          same = λ a counts. meant_value (heap_kind w) (heap_is_kind w) m.0 a m.1.1.keys counts;
          rests = λ j other. tt;
        };
    content = λ q ws there.
        let m = zip_get FitsContents p.layout.keys o.memo.content q ws fits.memo.content there in let low = slice_get_within p.layout.keys q ws there in
        let image : Map Key BScalar = meaning_of instance_key Snap m.0 in
        let at : ℕ = length (types_of p u) + length p.layout.fields + q in
        record {
          m = m.0;
          there = m.1.0;
          tidy = m.1.1.reduced;
          below = omega (arith, now_is p u (ContentAt q) low, low, fixed_length p u);
          image = image;
          here = at_same start (local_at (home_of p u).now (ContentAt q)) at (Many image) (now_is p u (ContentAt q) low)
              (given_there at (Many image)
              (get_from (variables ++ heaps) contents (length (types_of p u) + length p.layout.fields) at q (Many image) (omega (arith, length-append variables heaps, store_length, heaps_length)) refl
              (mapped_at (λ c. Many (meaning_of instance_key Snap c)) o.memo.content q m.0 m.1.0)));
          typed = contents_of_type ws m.0 m.1.1;
          same = λ a counts. meant_value (content_kind ws) (content_is_kind ws) m.0 a m.1.1.keys counts;
          rests = λ j other. tt;
        };
  }

  amount_default : (ws : List Ty) → default_value (amount_type ws) ≡ Many (empty (Real none))
  amount_default [] = refl
  amount_default (w ∷ ws) = refl

  pub start_has_zeros : HasZeros p u start
  start_has_zeros = record {
    mask = started_behind (front_values o) start_types (zero_mask p u) (map_type base.Ref [] base.Real) (omega (arith, values_length, front_length p u)) (there_left (fixed_types p u) us (zero_mask p u) (map_type base.Ref [] base.Real) (zero_is p u));
    amount = λ q ws there.
        started_behind (front_values o) start_types (zero_mask p u + 1 + q) (amount_type ws) (omega (arith, values_length, front_length p u))
        (there_left (fixed_types p u) us (zero_mask p u + 1 + q) (amount_type ws) (zero_amount_is p u q ws there)) ∙ ap Some (amount_default ws);
  }

  pub start_is_typed : IsEnvironment start_types start
  start_is_typed =
      let rest = drop_front in
      subst (λ (ws : List BType). IsEnvironment ws (started ws (front_values o))) (sym (assoc (front_types p u) rest us)) (started_fits (front_types p u) (rest ++ us) (front_values o) (front_fits p u o fits))
    where
      drop_front : List BType
      drop_front = held_on p u
