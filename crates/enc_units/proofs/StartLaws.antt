-- How the code of a unit begins: it is blocked where a zero map is not zero, and else it ends where nothing is held, and the old
-- state is the present one.
use Rattle.std.proofs.Common.{◌≡◌, ◌<◌, ◌≤◌, ◌+◌, ℕ, zero, suc, List, [], ◌∷◌, ◌++◌, map, length, length-append, All, replicate, slice_get, slice_set, Some, refl, sym, ap, subst, ◌∙◌, inl, inr, ◌⊎◌, arith}
use Rattle.std.proofs.lemmas.Option.{slice_get_within}
use Rattle.vb_value.proofs.ReducedLaws.{type_of-default}
use Rattle.lemmas.proofs.Lists.{zip_length, there_left, mapped_at}
use Rattle.sparse.specs.Map.{Map, empty}
use Rattle.sparse.proofs.MapLaws.{IsReduced-empty}
use Rattle.vb_value.specs.Bound.{Bound}
use Rattle.vb_value.specs.Fraction.{none}
use Rattle.vb_value.specs.Layout.{Layout}
use Rattle.vb_value.specs.Value.{default_of, IsProperValue}
use Rattle.vb_value.specs.declared.values.Ty.{Ty}
use Rattle.vb_value.specs.declared.values.Ty.TheVariants as ty
use Rattle.vb_value.specs.declared.values.Value.{Value}
use Rattle.viper_core.specs.Program.{Program}
use Rattle.viper_core.specs.declared.programs.Unit.{Unit}
use Rattle.viper_state.specs.Fits.{FitsValue, FitsStore, FitsOpening}
use Rattle.viper_state.specs.Run.{Opening}
use Rattle.viper_state.specs.State.{State, empty_state}
use Rattle.viper_state.specs.Within.{IsProperOpening}
use Rattle.viper_state.proofs.EachLaws.{empty_state_nonnegative}
use Rattle.viper_state.proofs.FitsLaws.{empty_state_fits}
use Rattle.viper_state.proofs.ProperLaws.{empty_state_proper}
use Rattle.viper_meaning.specs.Statements.{Activation, Configuration}
use Rattle.boogie_tree.specs.Program.{BType}
use Rattle.boogie_tree.specs.Stmt as s
use Rattle.boogie_tree.specs.Value.{Key, BScalar, Real, BValue, One, Many, BChoice}
use Rattle.boogie_tree.specs.Values.{IsMapOf, IsOfType, many, IsEnvironment}
use Rattle.boogie_tree.specs.declared.exprs.BBase.{BBase}
use Rattle.boogie_tree.specs.declared.exprs.BBase.TheVariants as base
use Rattle.boogie_meaning.specs.Ends.{Is}
use Rattle.boogie_meaning.specs.Patterns.{zero_code, GoesOrBlocks, goes, blocks}
use Rattle.boogie_meaning.specs.Quantified.{bvalue}
use Rattle.boogie_meaning.specs.Run.{Run, Done, Stops, Blocked, then_run, brun_stmt, brun}
use Rattle.boogie_meaning.proofs.PatternLaws.{set_here, set_there, zero_goes, zero_done, zero_ends}
use Rattle.boogie_meaning.proofs.ValueLaws.{found_typed, empty_typed}
use Rattle.moves.specs.Scalars.{scalar}
use Rattle.moves.specs.Maps.{index_types}
use Rattle.enc_expr.specs.Alike.{Kept}
use Rattle.enc_expr.specs.Code.{join}
use Rattle.enc_expr.specs.Coupling.{Env, HasMap, HasMaps, HasHeld, HasVariable, mask_kind, amount_kind}
use Rattle.enc_expr.specs.Front.{types_of}
use Rattle.enc_expr.specs.Locals.{types_of_others, fixed_types}
use Rattle.enc_expr.specs.Place.{number, Spot, Heap, Mask, Amount, Content, IsSpot, IsHeld, IsAnySpot, local_at, IsLocalAt, IsLocalOf, AreApart}
use Rattle.enc_expr.proofs.CopyLaws.{number_range, maps_after, held_moved, state_moved}
use Rattle.enc_expr.proofs.FrameLaws.{set_length, kept_itself, map_moved, maps_but, held_but, own_apart}
use Rattle.enc_expr.proofs.MapLaws.{mask_is_kind, amount_is_kind}
use Rattle.enc_expr.proofs.RunLaws.{assign_run, join_done}
use Rattle.enc_fold.specs.Saved.{copy_held}
use Rattle.enc_block.specs.Encoding.{keep_old}
use Rattle.enc_block.specs.Home.{Home, nothing_held, IsAt}
use Rattle.enc_units.specs.Units.{first_mask, first_old, zero_mask, first_further, home_of, zeros_code, default_code, defaults_code, start_code, HoldsOpening, HasZeros}
use Rattle.enc_units.proofs.UnitHomeLaws.{get_from, number_same, Stands, is_given, is_further, stands, given_number, now_is, now_low, old_low, maps_low, fixed_length, is_apart, is_old_apart, now_sizes, old_sizes, zero_is, zero_amount_is}

-- ---- zero maps

pub at_same : {X : Type 0} (E : List X) (i j : ℕ) (x : X) → i ≡ j → slice_get E j ≡ Some x → slice_get E i ≡ Some x
at_same E i j x e there = ap (slice_get E) e ∙ there

abbrev zero_value : BValue
zero_value = Many (empty (Real none))

module _ (ts : List BType) (b : Bound) where
  -- what is run first is done, or blocks
  first_goes : (x : s.BStmt) (xs : s.BStmts) (E F : Env) (cs rest : List BChoice) → brun_stmt ts b x E cs ≡ Done F rest → brun ts b (s.first x xs) E cs ≡ brun ts b xs F rest
  first_goes x xs E F cs rest h = ap (λ r. then_run r (λ G left. brun ts b xs G left)) h

  first_blocks : (x : s.BStmt) (xs : s.BStmts) (E : Env) (cs : List BChoice) → brun_stmt ts b x E cs ≡ Stops Blocked cs → brun ts b (s.first x xs) E cs ≡ Stops Blocked cs
  first_blocks x xs E cs h = ap (λ r. then_run r (λ G left. brun ts b xs G left)) h

  zero_decided : (us : List BBase) (E : Env) (i : ℕ) (m : Map Key BScalar) → slice_get E i ≡ Some (Many m) → IsMapOf us base.Real m → (cs : List BChoice) →
      (slice_get E i ≡ Some (Many (empty (Real none)))) ⊎ (brun_stmt ts b (zero_code us i) E cs ≡ Stops Blocked cs)
  zero_decided us E i m there typed cs = by_end (brun_stmt ts b (zero_code us i) E cs) refl (zero_ends ts b us E i m there typed cs)
    where
      by_end : (r : Run) → brun_stmt ts b (zero_code us i) E cs ≡ r → GoesOrBlocks E cs r → (slice_get E i ≡ Some (Many (empty (Real none)))) ⊎ (brun_stmt ts b (zero_code us i) E cs ≡ Stops Blocked cs)
      by_end r e goes = inl (there ∙ ap (λ n. Some (Many n)) (zero_done ts b us E i m there typed cs E cs e).0)
      by_end r e blocks = inr e

  -- the zero maps from this local on are zero
  abbrev AreZero : List (List Ty) → ℕ → Env → Type 0
  AreZero keys i E = (q : ℕ) (us : List Ty) → slice_get keys q ≡ Some us → slice_get E (i + q) ≡ Some (Many (empty (Real none)))

  zeros_go : (keys : List (List Ty)) (i : ℕ) (E : Env) → AreZero keys i E → (cs : List BChoice) → brun ts b (zeros_code i keys) E cs ≡ Done E cs
  zeros_go [] i E h cs = refl
  zeros_go (us ∷ keys) i E h cs =
      first_goes (zero_code (index_types us) i) (zeros_code (i + 1) keys) E E cs cs (zero_goes ts b (index_types us) E i cs (at_same E i (i + 0) zero_value (omega arith) (h 0 us refl)))
      ∙ zeros_go keys (i + 1) E (λ q ws there. at_same E (i + 1 + q) (i + suc q) zero_value (omega arith) (h (suc q) ws there)) cs

  zeros_decided : (keys : List (List Ty)) (i : ℕ) (E : Env) (rest : s.BStmts) →
      ((q : ℕ) (us : List Ty) → slice_get keys q ≡ Some us → (m : Map Key BScalar) × ((slice_get E (i + q) ≡ Some (Many m)) × IsMapOf (index_types us) base.Real m)) → (cs : List BChoice) →
      AreZero keys i E ⊎ (brun ts b (join (zeros_code i keys) rest) E cs ≡ Stops Blocked cs)
  zeros_decided [] i E rest typed cs = inl (λ q us there. absurd (cc))
  zeros_decided (us ∷ keys) i E rest typed cs =
      let o = typed 0 us refl in
      let here : slice_get E i ≡ Some (Many o.0) = at_same E i (i + 0) (Many o.0) (omega arith) o.1.0 in
      by_first (zero_decided (index_types us) E i o.0 here o.1.1 cs) (zeros_decided keys (i + 1) E rest (λ q ws there. let w = typed (suc q) ws there in (w.0, (at_same E (i + 1 + q) (i + suc q) (Many w.0) (omega arith) w.1.0, w.1.1))) cs)
    where
      all : slice_get E i ≡ Some (Many (empty (Real none))) → AreZero keys (i + 1) E → AreZero (us ∷ keys) i E
      all first later zero ws there = at_same E (i + 0) i zero_value (omega arith) first
      all first later (suc q) ws there = at_same E (i + suc q) (i + 1 + q) zero_value (omega arith) (later q ws there)

      by_first : (slice_get E i ≡ Some (Many (empty (Real none)))) ⊎ (brun_stmt ts b (zero_code (index_types us) i) E cs ≡ Stops Blocked cs) →
          AreZero keys (i + 1) E ⊎ (brun ts b (join (zeros_code (i + 1) keys) rest) E cs ≡ Stops Blocked cs) →
          AreZero (us ∷ keys) i E ⊎ (brun ts b (join (zeros_code i (us ∷ keys)) rest) E cs ≡ Stops Blocked cs)
      by_first (inr stops) later = inr (first_blocks (zero_code (index_types us) i) (join (zeros_code (i + 1) keys) rest) E cs stops)
      by_first (inl first) (inl later) = inl (all first later)
      by_first (inl first) (inr stops) = inr (first_goes (zero_code (index_types us) i) (join (zeros_code (i + 1) keys) rest) E E cs cs (zero_goes ts b (index_types us) E i cs first) ∙ stops)

  -- ---- defaults

  default_is : (w : Ty) (E : Env) → bvalue b (default_code w) E ≡ Is (scalar (default_of w))
  default_is ty.Int E = refl
  default_is ty.Bool E = refl
  default_is ty.Ref E = refl
  default_is ty.Perm E = refl

  record AreDefaults (ws : List Ty) (i : ℕ) (E : Env) : Type 0 where
    pub after : Env
    pub done : (cs : List BChoice) → brun ts b (defaults_code i ws) E cs ≡ Done after cs
    pub kept : Kept i E after
    pub same : (c : ℕ) (w : Ty) → slice_get ws c ≡ Some w → slice_get after (i + c) ≡ Some (One (scalar (default_of w)))

  defaults_set : (ws : List Ty) (i : ℕ) (E : Env) → i + length ws ≤ length E → AreDefaults ws i E
  defaults_set [] i E within = record { after = E; done = λ cs. refl; kept = kept_itself i E; same = λ c w there. absurd (cc) }
  defaults_set (w ∷ ws) i E within =
      let v : BValue = One (scalar (default_of w)) in let F : Env = slice_set E i v in
      let rest = defaults_set ws (i + 1) F (omega (arith, within, set_length E i v)) in
      record {
        after = rest.after;
        done = λ cs. assign_run ts b i (default_code w) (scalar (default_of w)) (defaults_code (i + 1) ws) E cs (default_is w E) ∙ rest.done cs;
        kept = record {
          length = rest.kept.length ∙ set_length E i v;
          same = λ j low. rest.kept.same j (omega (arith, low)) ∙ set_there E i j v (λ e. omega (arith, e, low));
        };
        same = λ c u there. by_place rest.after (rest.kept.same i (omega arith) ∙ set_here E i v (omega (arith, within))) rest.same c u there;
      }
    where
      by_place : (G : Env) → slice_get G i ≡ Some (One (scalar (default_of w))) → ((c : ℕ) (u : Ty) → slice_get ws c ≡ Some u → slice_get G (i + 1 + c) ≡ Some (One (scalar (default_of u)))) →
          (c : ℕ) (u : Ty) → slice_get (w ∷ ws) c ≡ Some u → slice_get G (i + c) ≡ Some (One (scalar (default_of u)))
      by_place G here later zero u there = let e : w ≡ u = cc in at_same G (i + 0) i (One (scalar (default_of u))) (omega arith) (here ∙ ap (λ (z : Ty). Some (One (scalar (default_of z)))) e)
      by_place G here later (suc c) u there = at_same G (i + suc c) (i + 1 + c) (One (scalar (default_of u))) (omega arith) (later c u there)

get_same : {X : Type 0} (n : ℕ) (x : X) (i : ℕ) → i < n → slice_get (replicate n x) i ≡ Some x
get_same zero x i h = absurd (omega (arith, h))
get_same (suc n) x zero h = refl
get_same (suc n) x (suc i) h = get_same n x i (omega (arith, h))

module _ (b : Bound) (p : Program) (u : Unit) (us : List BType) where
  abbrev ts : List BType
  ts = fixed_types p u ++ us

  abbrev n : ℕ
  n = length (fixed_types p u)

  abbrev h : Home
  h = home_of p u

  abbrev layout : Layout
  layout = p.layout

  -- ---- zero maps

  abbrev after_zeros : s.BStmts
  after_zeros = join (defaults_code (first_further p u) (types_of_others p u)) (join (copy_held h.now h.nothing) (keep_old h))

  -- from values of their types, either all zero maps are zero, or the code is blocked
  pub zeros_or_blocked : (E : Env) → IsEnvironment ts E → (cs : List BChoice) → HasZeros p u E ⊎ (brun ts b (start_code p u) E cs ≡ Stops Blocked cs)
  zeros_or_blocked E env cs = by_mask (zero_decided ts b (base.Ref ∷ []) E (zero_mask p u) mask.0 mask.1.0 mask.1.1 cs) (zeros_decided ts b layout.keys (zero_mask p u + 1) E after_zeros (λ q ws there. amount q ws there) cs)
    where
      as_map : {v : BValue} {w : BBase} {k : BBase} {ks : List BBase} → IsOfType v (record { keys = k ∷ ks; base = w }) → (m : Map Key BScalar) × ((v ≡ Many m) × IsMapOf (k ∷ ks) w m)
      as_map (many {m = m} typed) = (m, (refl, typed))

      mask : (m : Map Key BScalar) × ((slice_get E (zero_mask p u) ≡ Some (Many m)) × IsMapOf (base.Ref ∷ []) base.Real m)
      mask =
          let o = found_typed ts E (zero_mask p u) _ env (there_left (fixed_types p u) us (zero_mask p u) _ (zero_is p u)) in
          let m = as_map o.2 in (m.0, (o.1 ∙ ap Some m.1.0, m.1.1))

      amount : (q : ℕ) (ws : List Ty) → slice_get layout.keys q ≡ Some ws → (m : Map Key BScalar) × ((slice_get E (zero_mask p u + 1 + q) ≡ Some (Many m)) × IsMapOf (index_types ws) base.Real m)
      amount q [] there =
          let o = found_typed ts E (zero_mask p u + 1 + q) _ env (there_left (fixed_types p u) us (zero_mask p u + 1 + q) _ (zero_amount_is p u q [] there)) in
          let m = as_map o.2 in (m.0, (o.1 ∙ ap Some m.1.0, m.1.1))
      amount q (w ∷ ws) there =
          let o = found_typed ts E (zero_mask p u + 1 + q) _ env (there_left (fixed_types p u) us (zero_mask p u + 1 + q) _ (zero_amount_is p u q (w ∷ ws) there)) in
          let m = as_map o.2 in (m.0, (o.1 ∙ ap Some m.1.0, m.1.1))

      by_mask : (slice_get E (zero_mask p u) ≡ Some (Many (empty (Real none)))) ⊎ (brun_stmt ts b (zero_code (base.Ref ∷ []) (zero_mask p u)) E cs ≡ Stops Blocked cs) →
          ((q : ℕ) (ws : List Ty) → slice_get layout.keys q ≡ Some ws → slice_get E (zero_mask p u + 1 + q) ≡ Some (Many (empty (Real none)))) ⊎
          (brun ts b (join (zeros_code (zero_mask p u + 1) layout.keys) after_zeros) E cs ≡ Stops Blocked cs) → HasZeros p u E ⊎ (brun ts b (start_code p u) E cs ≡ Stops Blocked cs)
      by_mask (inr stops) rest = inr (first_blocks ts b (zero_code (base.Ref ∷ []) (zero_mask p u)) (join (zeros_code (zero_mask p u + 1) layout.keys) after_zeros) E cs stops)
      by_mask (inl is) (inl are) = inl (record { mask = is; amount = are })
      by_mask (inl is) (inr stops) =
          inr (first_goes ts b (zero_code (base.Ref ∷ []) (zero_mask p u)) (join (zeros_code (zero_mask p u + 1) layout.keys) after_zeros) E E cs cs (zero_goes ts b (base.Ref ∷ []) E (zero_mask p u) cs is) ∙ stops)

  -- ---- the start

  module _ (o : Opening) where
    -- nothing is held
    abbrev first_state : State
    first_state = empty_state layout o.memo

    nothing_there : (E : Env) → HasZeros p u E → HasHeld layout n h.nothing (nothing_held layout) E
    nothing_there E zeros = record {
      mask = λ f w there. mask f (slice_get_within layout.fields f w there);
      amount = λ q ws there. amount q ws there (slice_get_within layout.keys q ws there);
    }
      where
        mask : (f : ℕ) → f < length layout.fields → HasMap mask_kind n (number h.nothing.mask f) (nothing_held layout).mask f E
        mask f low = record {
          m = empty none;
          there = get_same (length layout.fields) (empty none) f low;
          tidy = IsReduced-empty mask_is_kind.exact.total none;
          below = omega (arith, number_same (length layout.fields) (zero_mask p u) f low, fixed_length p u);
          image = empty (Real none);
          here = ap (slice_get E) (number_same (length layout.fields) (zero_mask p u) f low) ∙ zeros.mask;
          typed = empty_typed;
          same = λ a counts. refl;
          rests = λ j other. tt;
        }

        amount : (q : ℕ) (ws : List Ty) → slice_get layout.keys q ≡ Some ws → q < length layout.keys → HasMap (amount_kind ws) n (number h.nothing.amount q) (nothing_held layout).amount q E
        amount q ws there low = record {
          m = empty none;
          there = get_same (length layout.keys) (empty none) q low;
          tidy = IsReduced-empty (amount_is_kind ws).exact.total none;
          below = omega (arith, number_range (zero_mask p u + 1) (length layout.keys) q low, low, fixed_length p u);
          image = empty (Real none);
          here = ap (slice_get E) (number_range (zero_mask p u + 1) (length layout.keys) q low) ∙ zeros.amount q ws there;
          typed = empty_typed;
          same = λ a counts. refl;
          rests = λ j other. refl;
        }

    held_high : (i : Spot) → IsHeld i → IsSpot layout i → first_mask p u ≤ local_at h.now i
    held_high (Mask f) held exists = omega (arith, now_is p u (Mask f) exists)
    held_high (Amount q) held exists = omega (arith, now_is p u (Amount q) exists)
    held_high (Heap f) held exists = elim held [ ]
    held_high (Content q) held exists = elim held [ ]

    nothing_apart : AreApart IsHeld (IsLocalAt IsHeld layout h.nothing) layout h.now
    nothing_apart = record { apart = λ i j held there also e. (is_apart p u).apart i j tt there also e; beside = λ i held there other. (is_apart p u).beside i tt there (inr other) }

    kept_apart : AreApart IsAnySpot (IsLocalOf layout h.now) layout h.old
    kept_apart = record {
      apart = λ i j any there also e. (is_old_apart p u).apart i j any there also e;
      beside = λ i any there mine. (is_apart p u).beside mine.spot tt mine.exists (inl (record { spot = i; kind = tt; exists = there; there = sym mine.there }));
    }

    -- a local of a variable is no map of a state
    abbrev IsSingle : ℕ → Type 0
    IsSingle j = (j < length (types_of p u)) ⊎ (first_further p u ≤ j)

    not_held : (j : ℕ) → IsSingle j → IsLocalAt IsHeld layout h.now j → ⊥
    not_held j (inl low) own = omega (arith, low, own.there, held_high own.spot own.kind own.exists)
    not_held j (inr high) own = omega (arith, high, own.there, now_is p u own.spot own.exists, now_low p u own.spot own.exists)

    not_old : (j : ℕ) → IsSingle j → IsLocalOf layout h.old j → ⊥
    not_old j (inl low) own = omega (arith, low, own.there, maps_after layout (first_old p u) own.spot own.exists)
    not_old j (inr high) own = omega (arith, high, own.there, old_low p u own.spot own.exists)

    now_early : (i : Spot) → IsSpot layout i → local_at h.now i < first_further p u
    now_early i exists = omega (arith, now_is p u i exists, now_low p u i exists)

    free_beside : (i : Spot) → IsSpot layout i → (IsHeld i → ⊥) → IsLocalAt IsHeld layout h.now (local_at h.now i) → ⊥
    free_beside i exists free mine = free (subst IsHeld (sym ((is_apart p u).apart i mine.spot tt exists mine.exists mine.there)) mine.kind)

    module _ (vars : List Ty) (are : types_of p u ++ types_of_others p u ≡ vars) (store : List Value) (holds_all : o.store ++ map default_of (types_of_others p u) ≡ store) where
      abbrev pub first_activation : Activation
      first_activation = record { program = p; vars = vars; old = first_state }

      abbrev pub first_configuration : Configuration
      first_configuration = record { store = store; state = first_state }

      variable_there : (H : Env) → ((x : ℕ) (w : Ty) → slice_get (types_of p u) x ≡ Some w → HasVariable w n (number h.vars x) o.store x H) →
          ((i : ℕ) (w : Ty) → slice_get (types_of_others p u) i ≡ Some w → slice_get H (first_further p u + i) ≡ Some (One (scalar (default_of w)))) → length o.store ≡ length (types_of p u) →
          (x : ℕ) (w : Ty) → Stands p u x w → HasVariable w n (number h.vars x) store x H
      variable_there H own other long x w (is_given there e) =
          let it = own x w there in
          record { v = it.v; there = subst (λ vs. slice_get vs x ≡ Some it.v) holds_all (there_left o.store (map default_of (types_of_others p u)) x it.v it.there); typed = it.typed; below = it.below; here = it.here }
      variable_there H own other long x w (is_further i at there e) = record {
        v = default_of w;
        there = subst (λ vs. slice_get vs x ≡ Some (default_of w)) holds_all
            (get_from o.store (map default_of (types_of_others p u)) (length (types_of p u)) x i (default_of w) long at (mapped_at default_of (types_of_others p u) i w there));
        typed = type_of-default w;
        below = omega (arith, e, slice_get_within (types_of_others p u) i w there, fixed_length p u);
        here = ap (slice_get H) e ∙ other i w there;
      }

      -- it is done, and the first configuration stands
      pub record IsStarted (E : Env) : Type 0 where
        pub after : Env
        pub done : (cs : List BChoice) → brun ts b (start_code p u) E cs ≡ Done after cs
        pub at : IsAt ts b first_activation h n first_configuration after

      pub starts : (E : Env) → length E ≡ length ts → HoldsOpening p u o E → HasZeros p u E → FitsOpening layout (types_of p u) o → IsProperOpening b o → All (IsProperValue b) store → FitsStore vars store → IsStarted E
      starts E full holds zeros fits proper store_proper store_fits =
          let within : n ≤ length E = omega (arith, full, length-append (fixed_types p u) us) in
          let others = types_of_others p u in
          let set = defaults_set ts b others (first_further p u) E (omega (arith, within, fixed_length p u)) in
          let F : Env = set.after in
          let still : HasZeros p u F = record {
            mask = set.kept.same (zero_mask p u) (omega arith) ∙ zeros.mask;
            amount = λ q ws there. set.kept.same (zero_mask p u + 1 + q) (omega (arith, slice_get_within layout.keys q ws there)) ∙ zeros.amount q ws there;
          } in
          let nothing = nothing_there F still in
          let moved = held_moved ts b layout h.now h.nothing (nothing_held layout) n n (now_sizes p u) F nothing_apart (λ i held exists. (maps_low p u i exists).0) (omega (arith, within, set.kept.length)) nothing in
          let G : Env = moved.after in
          let maps : HasMaps layout n h.now first_state G = record {
            heap = λ f w there.
                let low = slice_get_within layout.fields f w there in let map = holds.heap f w there in
                map_moved {F = G} map.below ((moved.kept n).same (local_at h.now (Heap f)) map.below (free_beside (Heap f) low (λ no. no)) ∙ set.kept.same (local_at h.now (Heap f)) (now_early (Heap f) low)) map;
            mask = moved.held.mask;
            amount = moved.held.amount;
            content = λ q ws there.
                let low = slice_get_within layout.keys q ws there in let map = holds.content q ws there in
                map_moved {F = G} map.below ((moved.kept n).same (local_at h.now (Content q)) map.below (free_beside (Content q) low (λ no. no)) ∙ set.kept.same (local_at h.now (Content q)) (now_early (Content q) low)) map;
          } in
          let kept = state_moved ts b layout h.old h.now first_state n n (old_sizes p u) G kept_apart (λ i exists. (maps_low p u i exists).1) (omega (arith, within, set.kept.length, (moved.kept n).length)) maps in
          let H : Env = kept.after in
          let single : (j : ℕ) → IsSingle j → j < n → slice_get H j ≡ slice_get F j =
          λ j one low. (kept.kept n).same j low (not_old j one) ∙ (moved.kept n).same j low (not_held j one) in
          let last = keep_old h in let third = copy_held h.now h.nothing in let second = defaults_code (first_further p u) others in let zero_maps = zeros_code (zero_mask p u + 1) layout.keys in
          record {
            after = H;
            done = λ cs.
                first_goes ts b (zero_code (base.Ref ∷ []) (zero_mask p u)) (join zero_maps (join second (join third last))) E E cs cs (zero_goes ts b (base.Ref ∷ []) E (zero_mask p u) cs zeros.mask)
                ∙ (join_done ts b zero_maps (join second (join third last)) E E cs cs (zeros_go ts b layout.keys (zero_mask p u + 1) E zeros.amount cs)
                ∙ (join_done ts b second (join third last) E F cs cs (set.done cs) ∙ (join_done ts b third last F G cs cs (moved.done cs) ∙ kept.done cs)));
            at = record {
              now = maps_but (omega arith) (kept.kept n) (λ i mine old. own_apart kept_apart mine old) maps;
              old = kept.maps;
              vars = λ x w seen there. variable_there H
                  (λ y z own.
                  let it = holds.vars y z own in let e = given_number p u y (slice_get_within (types_of p u) y z own) in let low = slice_get_within (types_of p u) y z own in
                  record {
                    v = it.v;
                    there = it.there;
                    typed = it.typed;
                    below = it.below;
                    here = single (number h.vars y) (inl (omega (arith, e, low))) it.below ∙ (set.kept.same (number h.vars y) (omega (arith, e, low)) ∙ it.here);
                  })
                  (λ i z own. single (first_further p u + i) (inr (omega arith)) (omega (arith, slice_get_within others i z own, fixed_length p u)) ∙ set.same i z own)
                  (sym (zip_length FitsValue (types_of p u) o.store fits.store)) x w (stands p u x w (ap (λ (ws : List Ty). slice_get ws x) are ∙ there));
              nothing = held_but (omega arith) (kept.kept n) (λ i mine old. own_apart (is_old_apart p u) mine old)
                  (held_but (omega arith) (moved.kept n) (λ i mine now. own_apart nothing_apart mine now) nothing);
              sound = record { fits = empty_state_fits layout o.memo fits.memo; proper = empty_state_proper b layout o.memo proper.memo; nonnegative = empty_state_nonnegative layout o.memo };
              old_sound = record { fits = empty_state_fits layout o.memo fits.memo; proper = empty_state_proper b layout o.memo proper.memo; nonnegative = empty_state_nonnegative layout o.memo };
              store = store_proper;
              fits = store_fits;
              full = (kept.kept n).length ∙ ((moved.kept n).length ∙ (set.kept.length ∙ full));
            };
          }
