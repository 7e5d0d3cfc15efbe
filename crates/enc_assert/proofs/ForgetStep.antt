-- One map is forgotten: the code gives it any values where nothing is held, and so does the meaning.
use Rattle.std.specs.Bool.{⊤}
use Rattle.std.proofs.Common.{◌≡◌, ◌≢◌, ◌+◌, ◌<◌, ℕ, zero, suc, pos, negsuc, Bool as Truth, true, List, [], ◌∷◌, map, All, Some, None, length, slice_get, slice_set, if◌then◌else◌, ◌⊎◌, inl, inr, refl, sym, ap, subst, ◌∙◌, arith}
use Rattle.std.proofs.lemmas.Option.{slice_get_within, same_Some, none-some}
use Rattle.std.proofs.lemmas.List.Elements.{All-nil, All-cons, All-head, All-tail}
use Rattle.std.specs.Map.{values_of}
use Rattle.sparse.specs.Map.{Map, empty, get, keys, values, IsReduced}
use Rattle.vb_value.specs.Bound.{Bound}
use Rattle.vb_value.specs.Content as content
use Rattle.vb_value.specs.Content.{Content, IsReducedContent, IsProperContent}
use Rattle.vb_value.specs.Fraction.{Fraction, none}
use Rattle.vb_value.specs.Key.{key_cmp, IsProperKey}
use Rattle.vb_value.specs.Value.{default_of, IsProperValue}
use Rattle.vb_value.specs.declared.keys.KeyPart.TheVariants as part
use Rattle.vb_value.specs.declared.values.Ty.{Ty}
use Rattle.vb_value.specs.declared.values.Ty.TheVariants as ty
use Rattle.vb_value.specs.declared.values.Value.{Value}
use Rattle.viper_state.specs.Fits.{FitsKey, FitsValue}
use Rattle.viper_state.proofs.Paired.{get_set_same}
use Rattle.boogie_tree.specs.Program.{BType}
use Rattle.boogie_tree.specs.Value as bv
use Rattle.boogie_tree.specs.Value.{Key, BScalar, Many, Real, BChoice}
use Rattle.boogie_tree.specs.Values as b
use Rattle.boogie_tree.specs.declared.exprs.BBase.{BBase}
use Rattle.boogie_tree.specs.declared.exprs.BBase.TheVariants as base
use Rattle.boogie_meaning.specs.Patterns as pattern
use Rattle.boogie_meaning.specs.Patterns.{Agrees, CanForget, with_both}
use Rattle.boogie_meaning.specs.Run.{filled, fits_entries, chosen, Done, Stop, Stops, Blocked, Short, brun}
use Rattle.boogie_tree.specs.Stmt.{BStmts}
use Rattle.boogie_meaning.proofs.PatternLaws.{set_here, forget_goes, forget_agrees, forget_stops}
use Rattle.boogie_meaning.proofs.ValueLaws.{chosen_typed}
use Rattle.moves.specs.Scalars.{scalar, base_for}
use Rattle.moves.specs.Maps.{place_key, instance_key, index_types}
use Rattle.enc_expr.specs.Coupling.{Env, MapKind, HasMap, heap_kind, mask_kind, amount_kind, content_kind}
use Rattle.enc_expr.proofs.FrameLaws.{set_length}
use Rattle.enc_expr.proofs.MapLaws.{IsKind, heap_is_kind, content_is_kind}
use Rattle.enc_assert.specs.Alongside.{IsProperScalar, IsProperMove, GivesMap}
use Rattle.enc_assert.proofs.DecodeLaws.{heap_value_in, content_key_in, content_value_in, typed_key, value_of, instance_in, content_of, read_entries, said_keys, said_values, chosen_proper, Reads, heap_reads, content_reads, IsRead, read_map, entries_for, fit_entries, given_value}

-- the values of a map, and how much is held at its keys
pub record Paired (K V : Type 0) : Type 1 where
  pub k : MapKind K V
  pub q : MapKind K Fraction
  pub is_kind : IsKind k
  pub Fits : V → Type 0
  pub reads : Reads k Fits
  pub default : V
  pub default_is : k.code default ≡ b.default_of k.base
  pub first : BBase
  pub others : List BBase
  pub keys_are : k.keys ≡ first ∷ others
  pub same_keys : q.keys ≡ k.keys
  pub real : q.base ≡ base.Real
  pub same_key : (a : K) → q.key a ≡ k.key a
  pub counts : (a : K) → k.Counts a → q.Counts a
  pub held_code : (x : Fraction) → q.code x ≡ Real x
  -- each key counts, or nothing is held there
  pub covered : (image : Map Key BScalar) → ((j : Key) → ((a : K) → q.Counts a → q.key a ≢ j) → q.Rests (get key_cmp image j)) → (j : Key) → b.FitsKey k.keys j →
      ((a : K) × ((k.key a ≡ j) × k.Counts a)) ⊎ (get key_cmp image j ≡ Real none)
  pub rests : (w : BScalar) → k.Rests w
  -- proper keys and values
  pub IsProperIndex : Bound → K → Type 0
  pub IsProperThing : Bound → V → Type 0
  pub proper_index : (bd : Bound) (j : Key) (a : K) → reads.key_in j ≡ Some a → IsProperKey bd j → IsProperIndex bd a
  pub proper_thing : (bd : Bound) (w : BScalar) (x : V) → reads.value_in w ≡ Some x → IsProperScalar bd w → IsProperThing bd x

pub default_scalar : (u : Ty) → scalar (default_of u) ≡ b.default_of (base_for u)
default_scalar ty.Int = refl
default_scalar ty.Bool = refl
default_scalar ty.Ref = refl
default_scalar ty.Perm = refl

pub reference : (j : Key) → b.FitsKey (base.Ref ∷ []) j → (r : ℕ) × ((place_key r ≡ j) × ⊤)
reference [] h = absurd h
reference (part.Ref r ∷ []) h = (r, (refl, tt))
reference (part.Ref r ∷ x ∷ j) h = absurd h.1
reference (part.Int n ∷ j) h = let e = h.0 in absurd (cc)
reference (part.Bool n ∷ j) h = let e = h.0 in absurd (cc)

abbrev pub first_index : List Ty → BBase
first_index [] = base.Int
first_index (u ∷ us) = base_for u

abbrev pub other_indices : List Ty → List BBase
other_indices [] = []
other_indices (u ∷ us) = map base_for us

pub indices : (us : List Ty) → index_types us ≡ first_index us ∷ other_indices us
indices [] = refl
indices (u ∷ us) = refl

pub instances : (us : List Ty) (image : Map Key BScalar) → ((j : Key) → ((a : Key) → FitsKey us a → instance_key a ≢ j) → get key_cmp image j ≡ Real none) → (j : Key) → b.FitsKey (index_types us) j →
    ((a : Key) × ((instance_key a ≡ j) × FitsKey us a)) ⊎ (get key_cmp image j ≡ Real none)
instances [] image rests [] h = absurd h
instances [] image rests (part.Int (pos zero) ∷ []) h = inl ([], (refl, tt))
instances [] image rests (part.Int (pos (suc n)) ∷ []) h = inr (rests (part.Int (pos (suc n)) ∷ []) other)
  where
    other : (a : Key) → FitsKey [] a → instance_key a ≢ part.Int (pos (suc n)) ∷ []
    other [] fits e = absurd (cc)
    other (x ∷ a) fits e = absurd fits
instances [] image rests (part.Int (negsuc n) ∷ []) h = inr (rests (part.Int (negsuc n) ∷ []) other)
  where
    other : (a : Key) → FitsKey [] a → instance_key a ≢ part.Int (negsuc n) ∷ []
    other [] fits e = absurd (cc)
    other (x ∷ a) fits e = absurd fits
instances [] image rests (part.Bool n ∷ j) h = let e = h.0 in absurd (cc)
instances [] image rests (part.Ref n ∷ j) h = let e = h.0 in absurd (cc)
instances [] image rests (part.Int n ∷ x ∷ j) h = absurd h.1
instances (u ∷ us) image rests [] h = absurd h
instances (u ∷ us) image rests (x ∷ j) h = inl (x ∷ j, (refl, typed_key (u ∷ us) (x ∷ j) h))

pub proper_value : (bd : Bound) (u : Ty) (w : BScalar) (x : Value) → value_of u w ≡ Some x → IsProperScalar bd w → IsProperValue bd x
proper_value bd ty.Int (bv.Int n) x h proper = subst (IsProperValue bd) (same_Some _ _ h) proper
proper_value bd ty.Bool (bv.Bool n) x h proper = subst (IsProperValue bd) (same_Some _ _ h) tt
proper_value bd ty.Ref (bv.Ref n) x h proper = subst (IsProperValue bd) (same_Some _ _ h) tt
proper_value bd ty.Perm (bv.Real q) x h proper = subst (IsProperValue bd) (same_Some _ _ h) proper
proper_value bd _ _ x h proper = absurd (none-some x h)

pub proper_instance : (bd : Bound) (us : List Ty) (j a : Key) → instance_in us j ≡ Some a → IsProperKey bd j → IsProperKey bd a
proper_instance bd [] (part.Int (pos zero) ∷ []) a h proper = subst (IsProperKey bd) (same_Some _ _ h) (All-nil _)
proper_instance bd [] _ a h proper = absurd (none-some a h)
proper_instance bd (u ∷ us) j a h proper = subst (IsProperKey bd) (same_Some _ _ h) proper

pub proper_content : (bd : Bound) (w : BScalar) (x : Content) → content_of w ≡ Some x → IsProperScalar bd w → IsProperContent bd x
proper_content bd (bv.Snap d) x h proper = subst (IsProperContent bd) (same_Some _ _ h) proper.1
proper_content bd _ x h proper = absurd (none-some x h)

abbrev pub heap_pair : Ty → Paired ℕ Value
heap_pair u = record {
  k = heap_kind u;
  q = mask_kind;
  is_kind = heap_is_kind u;
  Fits = FitsValue u;
  reads = heap_reads u;
  default = default_of u;
  default_is = default_scalar u;
  first = base.Ref;
  others = [];
  keys_are = refl;
  same_keys = refl;
  real = refl;
  same_key = λ a. refl;
  counts = λ a h. tt;
  held_code = λ x. refl;
  covered = λ image rests j fits. inl (reference j fits);
  rests = λ w. tt;
  IsProperIndex = λ bd a. ⊤;
  IsProperThing = IsProperValue;
  proper_index = λ bd j a h proper. tt;
  proper_thing = λ bd w x h proper. proper_value bd u w x (sym (heap_value_in u w) ∙ h) proper;
}

abbrev pub content_pair : List Ty → Paired Key Content
content_pair us = record {
  k = content_kind us;
  q = amount_kind us;
  is_kind = content_is_kind us;
  Fits = IsReducedContent;
  reads = content_reads us;
  default = content.Unit;
  default_is = refl;
  first = first_index us;
  others = other_indices us;
  keys_are = indices us;
  same_keys = refl;
  real = refl;
  same_key = λ a. refl;
  counts = λ a h. h;
  held_code = λ x. refl;
  covered = λ image rests j fits. instances us image rests j fits;
  rests = λ w. tt;
  IsProperIndex = IsProperKey;
  IsProperThing = IsProperContent;
  proper_index = λ bd j a h proper. proper_instance bd us j a (sym (content_key_in us j) ∙ h) proper;
  proper_thing = λ bd w x h proper. proper_content bd w x (sym (content_value_in us w) ∙ h) proper;
}

-- ---- one map

module _ {K V : Type 0} (pair : Paired K V) (ts : List BType) (bd : Bound) (n x y i : ℕ) (maps : List (Map K V)) (helds : List (Map K Fraction)) (E : Env) (old : HasMap pair.k n x maps i E) (held : HasMap pair.q n y helds i E)
    (local : slice_get ts n ≡ Some (record { keys = pair.k.keys; base = pair.k.base })) (long : n < length E) where
  abbrev k : MapKind K V
  k = pair.k

  can : CanForget ts E pair.first pair.others k.base y x n held.image old.image
  can = record {
    held_there = held.here;
    held_typed = subst (λ (us : List BBase). b.IsMapOf us base.Real held.image) (pair.same_keys ∙ pair.keys_are) (subst (λ (u : BBase). b.IsMapOf pair.q.keys u held.image) pair.real held.typed);
    old_there = old.here;
    old_typed = subst (λ (us : List BBase). b.IsMapOf us k.base old.image) pair.keys_are old.typed;
    new_type = local ∙ ap (λ (us : List BBase). Some (record { keys = us; base = k.base })) pair.keys_are;
    new_there = long;
    new_is_not_held = λ e. omega (arith, held.below, e);
    new_is_not_old = λ e. omega (arith, old.below, e);
  }

  abbrev after : Map Key BScalar → Env
  after image = with_both E x n image

  -- how much is held at a key
  abbrev held_at : K → Fraction
  held_at a = get pair.q.cmp held.m a

  held_value : (a : K) → k.Counts a → get key_cmp held.image (k.key a) ≡ Real (held_at a)
  held_value a counts = ap (get key_cmp held.image) (sym (pair.same_key a)) ∙ held.same a (pair.counts a counts) ∙ pair.held_code (held_at a)

  -- the map of Viper agrees where something is held
  abbrev pub IsOwnWhereHeld : Map K V → Type 0
  IsOwnWhereHeld h = (a : K) → k.Counts a → (held_at a ≡ none → ⊥) → get k.cmp old.m a ≡ get k.cmp h a

  -- the new map stands in its local
  has_new : (h : Map K V) (image : Map Key BScalar) → IsReduced k.cmp k.eq h → b.IsMapOf k.keys k.base image → ((a : K) → k.Counts a → get key_cmp image (k.key a) ≡ k.code (get k.cmp h a)) →
      HasMap k (n + 1) x (slice_set maps i h) i (after image)
  has_new h image tidy typed same = record {
    m = h;
    there = get_set_same maps i old.m h old.there;
    tidy = tidy;
    below = omega (arith, old.below);
    image = image;
    here = set_here (slice_set E n (Many image)) x (Many image) (omega (arith, set_length E n (Many image), slice_get_within E x (Many old.image) old.here));
    typed = typed;
    same = same;
    rests = λ j other. pair.rests (get key_cmp image j);
  }

  to_agree : (h : Map K V) (image : Map Key BScalar) → ((a : K) → k.Counts a → get key_cmp image (k.key a) ≡ k.code (get k.cmp h a)) → IsOwnWhereHeld h → Agrees (pair.first ∷ pair.others) held.image old.image image
  to_agree h image same own j fits some = elim (pair.covered held.image held.rests j (subst (λ us. b.FitsKey us j) (sym pair.keys_are) fits)) [
    | inl it ↦
        let counts = it.1.1 in
        let at_key : get key_cmp old.image (k.key it.0) ≡ get key_cmp image (k.key it.0) =
        old.same it.0 counts ∙ ap k.code (own it.0 counts (λ empty_there. some (ap (get key_cmp held.image) (sym it.1.0) ∙ held_value it.0 counts ∙ ap (λ (q : Fraction). Real q) empty_there))) ∙ sym (same it.0 counts) in
        subst (λ (j : Key). get key_cmp old.image j ≡ get key_cmp image j) it.1.0 at_key
    | inr absent ↦ absurd (some absent)
  ]

  -- ---- from Viper

  -- the choice of a map
  abbrev pub choice_of : Map K V → BChoice
  choice_of h = bv.Entries (entries_for k pair.is_kind h.entries)

  abbrev pub image_of : Map K V → Map Key BScalar
  image_of h = filled (empty (b.default_of k.base)) (entries_for k pair.is_kind h.entries)

  gives : (h : Map K V) → All k.Counts (keys h) → All (λ z. b.FitsScalar k.base (k.code z)) (values h) → chosen (record { keys = pair.first ∷ pair.others; base = k.base }) (choice_of h) ≡ Some (Many (image_of h))
  gives h counted scalars = ap (λ (t : Truth). if t then Some (Many (image_of h)) else None) (subst (λ us. fits_entries us k.base (entries_for k pair.is_kind h.entries) ≡ true) pair.keys_are (fit_entries k pair.is_kind h.entries counted scalars))

  -- a map of Viper that can be chosen
  pub record IsNew (h : Map K V) : Type 0 where
    pub tidy : IsReduced k.cmp k.eq h
    pub counted : All k.Counts (keys h)
    pub scalars : All (λ z. b.FitsScalar k.base (k.code z)) (values h)
    pub default : k.code h.default ≡ b.default_of k.base
    pub own : IsOwnWhereHeld h

  entries_reduced : (es : List (K × V)) → All (λ z. b.FitsScalar k.base (k.code z)) (values_of es) → All b.IsReducedEntry (entries_for k pair.is_kind es)
  entries_reduced [] h = All-nil b.IsReducedEntry
  entries_reduced (e ∷ es) h = let first = All-head (λ z. b.FitsScalar k.base (k.code z)) e.1 (values_of es) h in
      All-cons b.IsReducedEntry (record { key = k.key e.0; value = k.code e.1 }) (entries_for k pair.is_kind es) first.reduced (entries_reduced es (All-tail (λ z. b.FitsScalar k.base (k.code z)) e.1 (values_of es) h))

  image_typed : (h : Map K V) → IsNew h → b.IsMapOf (pair.first ∷ pair.others) k.base (image_of h)
  image_typed h new = inside (chosen_typed (record { keys = pair.first ∷ pair.others; base = k.base }) (choice_of h) (Many (image_of h)) (entries_reduced h.entries new.scalars) (gives h new.counted new.scalars))
    where
      inside : {m : Map Key BScalar} → b.IsOfType (Many m) (record { keys = pair.first ∷ pair.others; base = k.base }) → b.IsMapOf (pair.first ∷ pair.others) k.base m
      inside (b.many h) = h

  image_same : (h : Map K V) → IsNew h → (a : K) → k.Counts a → get key_cmp (image_of h) (k.key a) ≡ k.code (get k.cmp h a)
  image_same h new a counts = given_value k pair.is_kind h a new.tidy new.counted new.default counts

  abbrev pub forgetting : BStmts
  forgetting = pattern.forget_code k.keys y x n

  pub record Forward (h : Map K V) (cs : List BChoice) : Type 0 where
    pub done : brun ts bd forgetting E (choice_of h ∷ cs) ≡ Done (after (image_of h)) cs
    pub has : HasMap k (n + 1) x (slice_set maps i h) i (after (image_of h))

  pub forward : (h : Map K V) → IsNew h → (cs : List BChoice) → Forward h cs
  forward h new cs = record {
    done = ap (λ (us : List BBase). brun ts bd (pattern.forget_code us y x n) E (choice_of h ∷ cs)) pair.keys_are
        ∙ forget_goes ts bd E pair.first pair.others k.base y x n held.image old.image can (choice_of h) cs (image_of h) (image_typed h new) (gives h new.counted new.scalars) (to_agree h (image_of h) (image_same h new) new.own);
    has = has_new h (image_of h) new.tidy (subst (λ us. b.IsMapOf us k.base (image_of h)) (sym pair.keys_are) (image_typed h new)) (image_same h new);
  }

  -- ---- from Boogie

  pub record Backward (cs : List BChoice) (F : Env) (left : List BChoice) : Type 0 where
    pub h : Map K V
    pub image : Map Key BScalar
    pub is_read : IsRead k pair.is_kind pair.reads pair.default image h
    pub own : IsOwnWhereHeld h
    pub choice : BChoice
    pub choices : cs ≡ choice ∷ left
    pub gives_map : GivesMap k (record { keys = k.keys; base = k.base }) h choice
    pub environment : F ≡ after image
    pub has : HasMap k (n + 1) x (slice_set maps i h) i F
    pub proper_keys : All (pair.IsProperIndex bd) (keys h)
    pub proper_values : All (pair.IsProperThing bd) (values h)

  -- the map that a proper choice gives is read as a proper one
  proper_keys_of : (image : Map Key BScalar) → All (IsProperKey bd) (keys image) × All (IsProperScalar bd) (values image) → All (pair.IsProperIndex bd) (keys (read_entries k pair.is_kind pair.reads pair.default image.entries))
  proper_keys_of image h = said_keys k pair.is_kind pair.reads (IsProperKey bd) (IsProperScalar bd) (pair.IsProperIndex bd) (λ j a found proper. pair.proper_index bd j a found proper) pair.default image.entries h.0 h.1

  proper_values_of : (image : Map Key BScalar) → All (IsProperKey bd) (keys image) × All (IsProperScalar bd) (values image) → All (pair.IsProperThing bd) (values (read_entries k pair.is_kind pair.reads pair.default image.entries))
  proper_values_of image h = said_values k pair.is_kind pair.reads (IsProperKey bd) (IsProperScalar bd) (pair.IsProperThing bd) (λ w x found proper. pair.proper_thing bd w x found proper) pair.default image.entries h.0 h.1

  pub backward : (cs : List BChoice) (F : Env) (left : List BChoice) → All (IsProperMove bd) cs → All b.IsReducedChoice cs → brun ts bd forgetting E cs ≡ Done F left → Backward cs F left
  backward cs F left proper reduced run =
      let f = forget_agrees ts bd E pair.first pair.others k.base y x n held.image old.image can cs F left reduced (ap (λ (us : List BBase). brun ts bd (pattern.forget_code us y x n) E cs) (sym pair.keys_are) ∙ run) in
      let typed = subst (λ (us : List BBase). b.IsMapOf us k.base f.new_map) (sym pair.keys_are) f.new_typed in
      let read = read_map k pair.is_kind pair.reads pair.default f.new_map pair.default_is typed in
      record {
        h = read.0;
        image = f.new_map;
        is_read = read.1;
        own = λ a counts some. pair.reads.same_value _ _ (sym (old.same a counts)
            ∙ f.agrees (k.key a) (subst (λ us. b.FitsKey us (k.key a)) pair.keys_are (pair.is_kind.fits a counts)) (λ zero_there. some (same_real (sym (held_value a counts) ∙ zero_there))) ∙ read.1.same a counts);
        choice = f.choice;
        choices = f.choices;
        gives_map = record { image = f.new_map; given = ap (λ (us : List BBase). chosen (record { keys = us; base = k.base }) f.choice) pair.keys_are ∙ f.is_given; same = read.1.same };
        environment = f.environment;
        has = subst (λ F. HasMap k (n + 1) x (slice_set maps i read.0) i F) (sym f.environment) (has_new read.0 f.new_map read.1.reduced typed read.1.same);
        proper_keys = subst (λ (m : Map K V). All (pair.IsProperIndex bd) (keys m)) (sym read.1.made) (proper_keys_of f.new_map (chosen_proper bd pair.first pair.others k.base f.choice f.new_map (All-head (IsProperMove bd) f.choice left (subst (All (IsProperMove bd)) f.choices proper)) f.is_given));
        proper_values = subst (λ (m : Map K V). All (pair.IsProperThing bd) (values m)) (sym read.1.made) (proper_values_of f.new_map (chosen_proper bd pair.first pair.others k.base f.choice f.new_map (All-head (IsProperMove bd) f.choice left (subst (All (IsProperMove bd)) f.choices proper)) f.is_given));
      }
    where
      same_real : {p q : Fraction} → Real p ≡ Real q → p ≡ q
      same_real h = cc

  -- it does not fail
  pub stops : (cs : List BChoice) (why : Stop) (left : List BChoice) → All b.IsReducedChoice cs → brun ts bd forgetting E cs ≡ Stops why left → (why ≡ Blocked) ⊎ (why ≡ Short)
  stops cs why left reduced run =
      forget_stops ts bd E pair.first pair.others k.base y x n held.image old.image can cs why left reduced (ap (λ (us : List BBase). brun ts bd (pattern.forget_code us y x n) E cs) (sym pair.keys_are) ∙ run)
