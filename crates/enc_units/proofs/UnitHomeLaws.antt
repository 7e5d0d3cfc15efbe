-- The locals of a unit's procedure are a home: where each of them stands, and that none stands twice.
use Rattle.std.proofs.Common.{◌≡◌, ◌<◌, ◌≤◌, ◌+◌, ℕ, zero, suc, List, [], ◌∷◌, ◌++◌, map, length, length-append, replicate, slice_get, Some, refl, sym, ap, ◌∙◌, inl, inr, ◌⊎◌, arith}
use Rattle.std.specs.List.{range_with_len}
use Rattle.std.proofs.lemmas.Option.{slice_get_within}
use Rattle.std.proofs.lemmas.List.{length-map, get_or_append_left, get_or-append-add}
use Rattle.std.proofs.lemmas.List.FromFn.{length-range_with_len}
use Rattle.lemmas.proofs.Lists.{there_right, mapped_at, there_left}
use Rattle.vb_value.specs.Layout.{Layout}
use Rattle.vb_value.specs.declared.values.Ty.{Ty}
use Rattle.viper_core.specs.Program.{Program}
use Rattle.viper_core.specs.declared.programs.Unit.{Unit}
use Rattle.viper_state.specs.State.{State}
use Rattle.viper_meaning.specs.Statements.{Activation}
use Rattle.boogie_tree.specs.Program.{BType}
use Rattle.boogie_tree.specs.Values.{map_type}
use Rattle.boogie_tree.specs.declared.exprs.BBase.TheVariants as base
use Rattle.moves.specs.Scalars.{variable_type}
use Rattle.moves.specs.Maps.{heap_type, mask_type, amount_type, content_type, state_types}
use Rattle.enc_expr.specs.Front.{types_of, front_types}
use Rattle.enc_expr.specs.Locals.{types_of_others, fixed_types}
use Rattle.enc_expr.specs.Place.{number, Spot, Heap, Mask, Amount, Content, IsSpot, IsHeld, IsAnySpot, local_at, HasSizes, IsLocalOf, AreApart}
use Rattle.enc_expr.proofs.CopyLaws.{number_range, maps_after, maps_apart}
use Rattle.enc_assert.specs.Held.{IsHeldLocalOf}
use Rattle.enc_block.specs.Home.{Home, IsHome}
use Rattle.enc_units.specs.Units.{first_mask, first_old, zero_mask, first_further, home_of}

-- ---- along lists

-- behind as many others
pub get_from : {X : Type 0} (xs ys : List X) (n j i : ℕ) (y : X) → length xs ≡ n → j ≡ n + i → slice_get ys i ≡ Some y → slice_get (xs ++ ys) j ≡ Some y
get_from xs ys n j i y long at there = let e : j ≡ length xs + i = omega (arith, long, at) in ap (slice_get (xs ++ ys)) e ∙ (there_right xs ys i ∙ there)

-- an item of two lists is one of either
pub data IsIn {X : Type 0} (xs ys : List X) (i : ℕ) (x : X) : Type 0 where
  first : slice_get xs i ≡ Some x → IsIn xs ys i x
  second : (j : ℕ) → i ≡ length xs + j → slice_get ys j ≡ Some x → IsIn xs ys i x

pub in_either : {X : Type 0} (xs ys : List X) (i : ℕ) (x : X) → slice_get (xs ++ ys) i ≡ Some x → IsIn xs ys i x
in_either [] ys i x there = second i (omega arith) there
in_either (y ∷ xs) ys zero x there = first there
in_either (y ∷ xs) ys (suc i) x there = later (in_either xs ys i x there)
  where
    later : IsIn xs ys i x → IsIn (y ∷ xs) ys (suc i) x
    later (first h) = first h
    later (second j e h) = second j (omega (arith, e)) h

pub number_same : (n x i : ℕ) → i < n → number (replicate n x) i ≡ x
number_same zero x i h = absurd (omega (arith, h))
number_same (suc n) x zero h = refl
number_same (suc n) x (suc i) h = number_same n x i (omega (arith, h))

module _ (p : Program) (u : Unit) where
  abbrev layout : Layout
  layout = p.layout

  abbrev fields : ℕ
  fields = length p.layout.fields

  abbrev predicates : ℕ
  predicates = length p.layout.keys

  abbrev given : ℕ
  given = length (types_of p u)

  abbrev h : Home
  h = home_of p u

  -- ---- how many there are

  held_types : List BType
  held_types = map mask_type p.layout.fields ++ map amount_type p.layout.keys

  zero_types : List BType
  zero_types = map_type base.Ref [] base.Real ∷ map amount_type p.layout.keys

  other_types : List BType
  other_types = map variable_type (types_of_others p u)

  pub front_length : length (front_types p u) ≡ first_mask p u
  front_length = omega (
    arith,
    length-append (map variable_type (types_of p u) ++ map heap_type p.layout.fields) (map content_type p.layout.keys),
    length-append (map variable_type (types_of p u)) (map heap_type p.layout.fields),
    length-map (types_of p u) variable_type,
    length-map p.layout.fields heap_type,
    length-map p.layout.keys content_type,
  )

  held_length : length (map mask_type p.layout.fields ++ map amount_type p.layout.keys) ≡ fields + predicates
  held_length = omega (arith, length-append (map mask_type p.layout.fields) (map amount_type p.layout.keys), length-map p.layout.fields mask_type, length-map p.layout.keys amount_type)

  pub state_length : length (state_types p.layout) ≡ fields + fields + predicates + predicates
  state_length = omega (
    arith,
    length-append (map heap_type p.layout.fields ++ map mask_type p.layout.fields ++ map amount_type p.layout.keys) (map content_type p.layout.keys),
    length-append (map heap_type p.layout.fields ++ map mask_type p.layout.fields) (map amount_type p.layout.keys),
    length-append (map heap_type p.layout.fields) (map mask_type p.layout.fields),
    length-map p.layout.fields heap_type,
    length-map p.layout.fields mask_type,
    length-map p.layout.keys amount_type,
    length-map p.layout.keys content_type,
  )

  zero_length : length (map_type base.Ref [] base.Real ∷ map amount_type p.layout.keys) ≡ 1 + predicates
  zero_length = omega (arith, length-map p.layout.keys amount_type)

  abbrev pub zeros_on : List BType
  zeros_on = (map_type base.Ref [] base.Real ∷ map amount_type p.layout.keys) ++ map variable_type (types_of_others p u)

  abbrev pub old_on : List BType
  old_on = state_types p.layout ++ zeros_on

  abbrev pub held_on : List BType
  held_on = (map mask_type p.layout.fields ++ map amount_type p.layout.keys) ++ old_on

  pub fixed_length : length (fixed_types p u) ≡ first_further p u + length (types_of_others p u)
  fixed_length = omega (
    arith,
    length-append (front_types p u) held_on,
    length-append (map mask_type p.layout.fields ++ map amount_type p.layout.keys) old_on,
    length-append (state_types p.layout) zeros_on,
    length-append (map_type base.Ref [] base.Real ∷ map amount_type p.layout.keys) (map variable_type (types_of_others p u)),
    front_length,
    held_length,
    state_length,
    zero_length,
    length-map (types_of_others p u) variable_type,
  )

  -- ---- which types they have

  pub front_type : (i : ℕ) (w : BType) → slice_get (front_types p u) i ≡ Some w → slice_get (fixed_types p u) i ≡ Some w
  front_type i w there = there_left (front_types p u) held_on i w there

  pub given_type : (x : ℕ) (w : Ty) → slice_get (types_of p u) x ≡ Some w → slice_get (fixed_types p u) x ≡ Some (variable_type w)
  given_type x w there =
      front_type x (variable_type w)
      (there_left (map variable_type (types_of p u) ++ map heap_type p.layout.fields) (map content_type p.layout.keys) x (variable_type w)
      (there_left (map variable_type (types_of p u)) (map heap_type p.layout.fields) x (variable_type w) (mapped_at variable_type (types_of p u) x w there)))

  pub heap_is : (f : ℕ) (w : Ty) → slice_get p.layout.fields f ≡ Some w → slice_get (fixed_types p u) (given + f) ≡ Some (heap_type w)
  heap_is f w there =
      front_type (given + f) (heap_type w)
      (there_left (map variable_type (types_of p u) ++ map heap_type p.layout.fields) (map content_type p.layout.keys) (given + f) (heap_type w)
      (get_from (map variable_type (types_of p u)) (map heap_type p.layout.fields) given (given + f) f (heap_type w) (length-map (types_of p u) variable_type) refl (mapped_at heap_type p.layout.fields f w there)))

  pub content_is : (q : ℕ) (us : List Ty) → slice_get p.layout.keys q ≡ Some us → slice_get (fixed_types p u) (given + fields + q) ≡ Some (content_type us)
  content_is q us there =
      front_type (given + fields + q) (content_type us)
      (get_from (map variable_type (types_of p u) ++ map heap_type p.layout.fields) (map content_type p.layout.keys) (given + fields) (given + fields + q) q (content_type us)
      (omega (arith, length-append (map variable_type (types_of p u)) (map heap_type p.layout.fields), length-map (types_of p u) variable_type, length-map p.layout.fields heap_type)) refl
      (mapped_at content_type p.layout.keys q us there))

  -- zero maps, and what stands behind them
  late_type : (j i : ℕ) (w : BType) → j ≡ zero_mask p u + i → slice_get zeros_on i ≡ Some w → slice_get (fixed_types p u) j ≡ Some w
  late_type j i w at there =
      let n = fields + predicates in let k = fields + fields + predicates + predicates in
      get_from (front_types p u) held_on (first_mask p u) j (n + (k + i)) w front_length (omega (arith, at))
      (get_from (map mask_type p.layout.fields ++ map amount_type p.layout.keys) old_on n (n + (k + i)) (k + i) w held_length refl (get_from (state_types p.layout) zeros_on k (k + i) i w state_length refl there))

  pub zero_is : slice_get (fixed_types p u) (zero_mask p u) ≡ Some (map_type base.Ref [] base.Real)
  zero_is = late_type (zero_mask p u) 0 (map_type base.Ref [] base.Real) (omega arith) refl

  pub zero_amount_is : (q : ℕ) (us : List Ty) → slice_get p.layout.keys q ≡ Some us → slice_get (fixed_types p u) (zero_mask p u + 1 + q) ≡ Some (amount_type us)
  zero_amount_is q us there =
      late_type (zero_mask p u + 1 + q) (1 + q) (amount_type us) (omega arith)
      (there_left (map_type base.Ref [] base.Real ∷ map amount_type p.layout.keys) (map variable_type (types_of_others p u)) (1 + q) (amount_type us)
      (get_from (map_type base.Ref [] base.Real ∷ []) (map amount_type p.layout.keys) 1 (1 + q) q (amount_type us) refl refl (mapped_at amount_type p.layout.keys q us there)))

  pub further_is : (i : ℕ) (w : Ty) → slice_get (types_of_others p u) i ≡ Some w → slice_get (fixed_types p u) (first_further p u + i) ≡ Some (variable_type w)
  further_is i w there =
      late_type (first_further p u + i) (1 + predicates + i) (variable_type w) (omega arith)
      (get_from (map_type base.Ref [] base.Real ∷ map amount_type p.layout.keys) (map variable_type (types_of_others p u)) (1 + predicates) (1 + predicates + i) i (variable_type w) zero_length refl
      (mapped_at variable_type (types_of_others p u) i w there))

  -- ---- where they stand

  -- a variable is one that the opening gives, or another
  pub data Stands (x : ℕ) (w : Ty) : Type 0 where
    is_given : slice_get (types_of p u) x ≡ Some w → number h.vars x ≡ x → Stands x w
    is_further : (i : ℕ) → x ≡ given + i → slice_get (types_of_others p u) i ≡ Some w → number h.vars x ≡ first_further p u + i → Stands x w

  pub given_number : (x : ℕ) → x < given → number h.vars x ≡ x
  given_number x low =
      get_or_append_left (range_with_len 0 given) (range_with_len (first_further p u) (length (types_of_others p u))) 0 x (omega (arith, low, length-range_with_len 0 given))
      ∙ (number_range 0 given x low ∙ omega arith)

  pub further_number : (i : ℕ) → i < length (types_of_others p u) → number h.vars (given + i) ≡ first_further p u + i
  further_number i low =
      ap (number h.vars) (omega (arith, length-range_with_len 0 given))
      ∙ (get_or-append-add (range_with_len 0 given) (range_with_len (first_further p u) (length (types_of_others p u))) i 0 ∙ number_range (first_further p u) (length (types_of_others p u)) i low)

  pub stands : (x : ℕ) (w : Ty) → slice_get (types_of p u ++ types_of_others p u) x ≡ Some w → Stands x w
  stands x w there = by_list (in_either (types_of p u) (types_of_others p u) x w there)
    where
      by_list : IsIn (types_of p u) (types_of_others p u) x w → Stands x w
      by_list (first own) = is_given own (given_number x (slice_get_within (types_of p u) x w own))
      by_list (second i e own) = is_further i e own (ap (number h.vars) e ∙ further_number i (slice_get_within (types_of_others p u) i w own))

  abbrev now_at : Spot → ℕ
  now_at (Heap f) = given + f
  now_at (Mask f) = first_mask p u + f
  now_at (Amount q) = first_mask p u + fields + q
  now_at (Content q) = given + fields + q

  pub now_is : (i : Spot) → IsSpot layout i → local_at h.now i ≡ now_at i
  now_is (Heap f) exists = number_range given fields f exists
  now_is (Mask f) exists = number_range (first_mask p u) fields f exists
  now_is (Amount q) exists = number_range (first_mask p u + fields) predicates q exists
  now_is (Content q) exists = number_range (given + fields) predicates q exists

  pub now_low : (i : Spot) → IsSpot layout i → now_at i < first_old p u
  now_low (Heap f) exists = omega (arith, exists)
  now_low (Mask f) exists = omega (arith, exists)
  now_low (Amount q) exists = omega (arith, exists)
  now_low (Content q) exists = omega (arith, exists)

  now_differ : (i j : Spot) → IsSpot layout i → IsSpot layout j → now_at i ≡ now_at j → i ≡ j
  now_differ (Heap i) (Heap j) g k same = ap Heap (omega (arith, same))
  now_differ (Heap i) (Mask j) g k same = absurd (omega (arith, g, k, same))
  now_differ (Heap i) (Amount j) g k same = absurd (omega (arith, g, k, same))
  now_differ (Heap i) (Content j) g k same = absurd (omega (arith, g, k, same))
  now_differ (Mask i) (Heap j) g k same = absurd (omega (arith, g, k, same))
  now_differ (Mask i) (Mask j) g k same = ap Mask (omega (arith, same))
  now_differ (Mask i) (Amount j) g k same = absurd (omega (arith, g, k, same))
  now_differ (Mask i) (Content j) g k same = absurd (omega (arith, g, k, same))
  now_differ (Amount i) (Heap j) g k same = absurd (omega (arith, g, k, same))
  now_differ (Amount i) (Mask j) g k same = absurd (omega (arith, g, k, same))
  now_differ (Amount i) (Amount j) g k same = ap Amount (omega (arith, same))
  now_differ (Amount i) (Content j) g k same = absurd (omega (arith, g, k, same))
  now_differ (Content i) (Heap j) g k same = absurd (omega (arith, g, k, same))
  now_differ (Content i) (Mask j) g k same = absurd (omega (arith, g, k, same))
  now_differ (Content i) (Amount j) g k same = absurd (omega (arith, g, k, same))
  now_differ (Content i) (Content j) g k same = ap Content (omega (arith, same))

  pub old_low : (i : Spot) → IsSpot layout i → local_at h.old i < zero_mask p u
  old_low (Heap f) exists = omega (arith, exists, number_range (first_old p u) fields f exists)
  old_low (Mask f) exists = omega (arith, exists, number_range (first_old p u + fields) fields f exists)
  old_low (Amount q) exists = omega (arith, exists, number_range (first_old p u + fields + fields) predicates q exists)
  old_low (Content q) exists = omega (arith, exists, number_range (first_old p u + fields + fields + predicates) predicates q exists)

  nothing_high : (i : Spot) → IsHeld i → IsSpot layout i → zero_mask p u ≤ local_at h.nothing i
  nothing_high (Mask f) held exists = omega (arith, number_same fields (zero_mask p u) f exists)
  nothing_high (Amount q) held exists = omega (arith, number_range (zero_mask p u + 1) predicates q exists)
  nothing_high (Heap f) held exists = elim held [ ]
  nothing_high (Content q) held exists = elim held [ ]

  -- each map of a state is a fixed local
  pub maps_low : (i : Spot) → IsSpot layout i → (local_at h.now i < length (fixed_types p u)) × (local_at h.old i < length (fixed_types p u))
  maps_low i exists = (omega (arith, now_is i exists, now_low i exists, fixed_length), omega (arith, old_low i exists, fixed_length))

  -- ---- a home

  pub is_apart : AreApart IsAnySpot (λ x. IsLocalOf layout h.old x ⊎ IsHeldLocalOf layout h.nothing x) layout h.now
  is_apart = record {
    apart = λ i j any there also e. now_differ i j there also (sym (now_is i there) ∙ (e ∙ now_is j also));
    beside = λ i any there other. by_kind i there other;
  }
    where
      by_kind : (i : Spot) → IsSpot layout i → IsLocalOf layout h.old (local_at h.now i) ⊎ IsHeldLocalOf layout h.nothing (local_at h.now i) → ⊥
      by_kind i there (inl old) = omega (arith, now_is i there, now_low i there, old.there, maps_after layout (first_old p u) old.spot old.exists)
      by_kind i there (inr none) = omega (arith, now_is i there, now_low i there, none.there, nothing_high none.spot none.kind none.exists)

  pub is_old_apart : AreApart IsAnySpot (IsHeldLocalOf layout h.nothing) layout h.old
  is_old_apart = record {
    apart = (maps_apart {O = λ i. ⊥} layout 0 (first_old p u) (λ i no. elim no [ ]) (omega arith)).apart;
    beside = λ i any there none. omega (arith, old_low i there, none.there, nothing_high none.spot none.kind none.exists);
  }

  pub now_sizes : HasSizes layout h.now
  now_sizes = record {
    heap = length-range_with_len given fields;
    mask = length-range_with_len (first_mask p u) fields;
    amount = length-range_with_len (first_mask p u + fields) predicates;
    content = length-range_with_len (given + fields) predicates;
  }

  pub old_sizes : HasSizes layout h.old
  old_sizes = record {
    heap = length-range_with_len (first_old p u) fields;
    mask = length-range_with_len (first_old p u + fields) fields;
    amount = length-range_with_len (first_old p u + fields + fields) predicates;
    content = length-range_with_len (first_old p u + fields + fields + predicates) predicates;
  }

  module _ (vars : List Ty) (are : types_of p u ++ types_of_others p u ≡ vars) (s : State) (us : List BType) where
    abbrev pub activation_of : Activation
    activation_of = record { program = p; vars = vars; old = s }

    pub home_is_home : IsHome (fixed_types p u ++ us) activation_of h
    home_is_home = record {
      as_many = omega (
        arith,
        length-append (range_with_len 0 given) (range_with_len (first_further p u) (length (types_of_others p u))),
        length-range_with_len 0 given,
        length-range_with_len (first_further p u) (length (types_of_others p u)),
        length-append (types_of p u) (types_of_others p u),
        ap length are,
      );
      types = λ x w there. typed x w (stands x w (ap (λ (ws : List Ty). slice_get ws x) are ∙ there));
      vars = λ x y w z there also same. differ x y w z (stands x w (ap (λ (ws : List Ty). slice_get ws x) are ∙ there)) (stands y z (ap (λ (ws : List Ty). slice_get ws y) are ∙ also)) same;
      sizes = now_sizes;
      old_sizes = old_sizes;
      now = is_apart;
      old = is_old_apart;
    }
      where
        typed : (x : ℕ) (w : Ty) → Stands x w → slice_get (fixed_types p u ++ us) (number h.vars x) ≡ Some (variable_type w)
        typed x w (is_given own e) = ap (slice_get (fixed_types p u ++ us)) e ∙ there_left (fixed_types p u) us x (variable_type w) (given_type x w own)
        typed x w (is_further i at own e) = ap (slice_get (fixed_types p u ++ us)) e ∙ there_left (fixed_types p u) us (first_further p u + i) (variable_type w) (further_is i w own)

        differ : (x y : ℕ) (w z : Ty) → Stands x w → Stands y z → number h.vars x ≡ number h.vars y → x ≡ y
        differ x y w z (is_given own e) (is_given other d) same = sym e ∙ (same ∙ d)
        differ x y w z (is_given own e) (is_further j at other d) same = absurd (omega (arith, e, d, same, slice_get_within (types_of p u) x w own))
        differ x y w z (is_further i at own e) (is_given other d) same = absurd (omega (arith, e, d, same, slice_get_within (types_of p u) y z other))
        differ x y w z (is_further i at own e) (is_further j there other d) same = omega (arith, e, d, same, at, there)
