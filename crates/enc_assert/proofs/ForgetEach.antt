-- Map after map is forgotten.
use Rattle.std.specs.Bool.{⊤}
use Rattle.std.proofs.Common.{◌≡◌, ◌+◌, ◌<◌, ◌≤◌, ℕ, suc, List, [], ◌∷◌, ◌++◌, All, Some, length, slice_get, slice_set, ◌⊎◌, refl, sym, ap, subst, ◌∙◌, arith}
use Rattle.std.proofs.lemmas.Option.{slice_get_within, same_Some}
use Rattle.std.proofs.lemmas.List.Elements.{All-tail}
use Rattle.sparse.specs.Map.{Map, empty, get, keys, values, IsReduced}
use Rattle.vb_value.specs.Bound.{Bound}
use Rattle.vb_value.specs.Fraction.{Fraction, none}
use Rattle.vb_value.specs.Layout.{Layout}
use Rattle.viper_state.specs.State.{State}
use Rattle.viper_state.proofs.Paired.{get_set_other}
use Rattle.boogie_tree.specs.Program.{BType}
use Rattle.boogie_tree.specs.Value as bv
use Rattle.boogie_tree.specs.Value.{Key, BScalar, Many, BChoice}
use Rattle.boogie_tree.specs.Values as b
use Rattle.boogie_meaning.specs.Patterns as pattern
use Rattle.boogie_meaning.specs.Patterns.{with_both}
use Rattle.boogie_meaning.specs.Run.{Run, filled, chosen, Done, Stop, Stops, Blocked, Short, then_run, brun}
use Rattle.boogie_meaning.proofs.PatternLaws.{set_there}
use Rattle.enc_expr.specs.Code.{Emitting, gives, then_emit}
use Rattle.enc_expr.specs.Place.{Maps, Spot, IsSpot, IsFree, local_at}
use Rattle.enc_expr.specs.Coupling.{Env, HasMap, HasMaps, AreLocals}
use Rattle.enc_expr.specs.Alike.{KeptBut}
use Rattle.enc_expr.proofs.RunLaws.{join_run, join_done}
use Rattle.enc_expr.proofs.FrameLaws.{set_length, but_from, but_then, kept_itself}
use Rattle.enc_assert.specs.Alongside.{IsProperMove, GivesMap}
use Rattle.enc_assert.specs.Encoding.{forget_map}
use Rattle.enc_assert.specs.Held.{IsFreeLocalOf}
use Rattle.enc_assert.proofs.DecodeLaws.{IsRead, entries_for}
use Rattle.enc_assert.proofs.ForgetStep.{Paired, IsOwnWhereHeld, IsNew, forward, Backward, backward, stops}

-- the maps of a state that are forgotten: its heaps, or its contents
pub record Side (layout : Layout) (now : Maps) (T K V : Type 0) : Type 1 where
  pub pair : T → Paired K V
  pub types : List T
  pub type_for : T → BType
  pub type_is : (u : T) → type_for u ≡ record { keys = (pair u).k.keys; base = (pair u).k.base }
  pub maps : State → List (Map K V)
  pub helds : State → List (Map K Fraction)
  pub with_maps : State → List (Map K V) → State
  pub maps_are : (s : State) (hs : List (Map K V)) → maps (with_maps s hs) ≡ hs
  pub helds_stay : (s : State) (hs : List (Map K V)) → helds (with_maps s hs) ≡ helds s
  pub last_counts : (s : State) (hs gs : List (Map K V)) → with_maps (with_maps s hs) gs ≡ with_maps s gs
  pub itself : (s : State) → with_maps s (maps s) ≡ s
  pub spot : ℕ → Spot
  pub held_spot : ℕ → Spot
  pub is_free : (i : ℕ) → IsFree (spot i)
  pub exists : (i : ℕ) → i < length types → IsSpot layout (spot i)
  pub has : {n : ℕ} {s : State} {E : Env} → HasMaps layout n now s E → (i : ℕ) (u : T) → slice_get types i ≡ Some u → HasMap (pair u).k n (local_at now (spot i)) (maps s) i E
  pub held : {n : ℕ} {s : State} {E : Env} → HasMaps layout n now s E → (i : ℕ) (u : T) → slice_get types i ≡ Some u → HasMap (pair u).q n (local_at now (held_spot i)) (helds s) i E
  pub replaced : {n : ℕ} {s : State} {E F : Env} → HasMaps layout n now s E → (i : ℕ) (u : T) → slice_get types i ≡ Some u → (h : Map K V) → KeptBut (λ j. j ≡ local_at now (spot i)) n E F →
      HasMap (pair u).k (n + 1) (local_at now (spot i)) (slice_set (maps s) i h) i F → HasMaps layout (n + 1) now (with_maps s (slice_set (maps s) i h)) F

-- a state after its maps from number i on were replaced
abbrev pub set_from : {K V : Type 0} → List (Map K V) → ℕ → List (Map K V) → List (Map K V)
set_from ms i [] = ms
set_from ms i (h ∷ hs) = set_from (slice_set ms i h) (i + 1) hs

abbrev pub forget_each : {T : Type 0} → (T → ℕ → Emitting ⊤) → List T → ℕ → Emitting ⊤
forget_each step [] i = gives tt
forget_each step (u ∷ us) i = then_emit (step u i) (λ x. forget_each step us (i + 1))

both_changed : (E : Env) (x n : ℕ) (image : Map Key BScalar) → x < n → KeptBut (λ j. j ≡ x) n E (with_both E x n image)
both_changed E x n image below = record {
  length = set_length (slice_set E n (Many image)) x (Many image) ∙ set_length E n (Many image);
  same = λ j low other. set_there (slice_set E n (Many image)) x j (Many image) (λ e. other (sym e)) ∙ set_there E n j (Many image) (λ e. omega (arith, e, low));
}

module _ {layout : Layout} {now : Maps} {T K V : Type 0} (side : Side layout now T K V) (ts : List BType) (bd : Bound) (start : State) where
  abbrev pub step : T → ℕ → Emitting ⊤
  step u i = forget_map (side.type_for u) (local_at now (side.held_spot i)) (local_at now (side.spot i))

  -- the new map of this number agrees with that of the start where something is held
  abbrev pub IsOwn : ℕ → Map K V → T → Type 0
  IsOwn i h u = (m : Map K V) (q : Map K Fraction) → slice_get (side.maps start) i ≡ Some m → slice_get (side.helds start) i ≡ Some q → (a : K) → (side.pair u).k.Counts a → (get (side.pair u).q.cmp q a ≡ none → ⊥) →
      get (side.pair u).k.cmp m a ≡ get (side.pair u).k.cmp h a

  -- so far: the maps from number i on are those of the start
  pub record SoFar (i n : ℕ) (s : State) (E : Env) : Type 0 where
    pub maps : HasMaps layout n now s E
    pub later : (j : ℕ) → i ≤ j → slice_get (side.maps s) j ≡ slice_get (side.maps start) j
    pub held : side.helds s ≡ side.helds start
    pub full : length E ≡ length ts

  next_so_far : {i n : ℕ} {s : State} {E F : Env} (h : Map K V) → SoFar i n s E → HasMaps layout (n + 1) now (side.with_maps s (slice_set (side.maps s) i h)) F → length F ≡ length E →
      SoFar (i + 1) (n + 1) (side.with_maps s (slice_set (side.maps s) i h)) F
  next_so_far {i} {s = s} h so maps long = record {
    maps = maps;
    later = λ j above. ap (λ ms. slice_get ms j) (side.maps_are s (slice_set (side.maps s) i h)) ∙ get_set_other (side.maps s) i j h (λ e. omega (arith, e, above)) ∙ so.later j (omega (arith, above));
    held = side.helds_stay s (slice_set (side.maps s) i h) ∙ so.held;
    full = long ∙ so.full;
  }

  -- ---- one map

  module _ (u : T) (i n : ℕ) (s : State) (E : Env) (so : SoFar i n s E) (there : slice_get side.types i ≡ Some u) (local : slice_get ts n ≡ Some (side.type_for u)) where
    abbrev pair : Paired K V
    pair = side.pair u

    abbrev x : ℕ
    x = local_at now (side.spot i)

    abbrev y : ℕ
    y = local_at now (side.held_spot i)

    old : HasMap pair.k n x (side.maps s) i E
    old = side.has so.maps i u there

    held : HasMap pair.q n y (side.helds s) i E
    held = side.held so.maps i u there

    own_local : slice_get ts n ≡ Some (record { keys = pair.k.keys; base = pair.k.base })
    own_local = local ∙ ap (λ (w : BType). Some w) (side.type_is u)

    long : n < length E
    long = omega (arith, slice_get_within ts n (side.type_for u) local, so.full)

    -- the code of this map
    same_code : (cs : List BChoice) → brun ts bd (step u i n).stmts E cs ≡ brun ts bd (pattern.forget_code pair.k.keys y x n) E cs
    same_code cs = ap (λ (w : BType). brun ts bd (pattern.forget_code w.keys y x n) E cs) (side.type_is u)

    changed : (image : Map Key BScalar) → KeptBut (λ j. j ≡ x) n E (with_both E x n image)
    changed image = both_changed E x n image old.below

    kept_free : (image : Map Key BScalar) → KeptBut (IsFreeLocalOf layout now) n E (with_both E x n image)
    kept_free image =
        let k = changed image in
        record { length = k.length; same = λ j below other. k.same j below (λ same. other (record { spot = side.spot i; kind = side.is_free i; exists = side.exists i (slice_get_within side.types i u there); there = same })) }

    -- what the start says of this map
    own_where_held : (h : Map K V) → IsOwn i h u → IsOwnWhereHeld pair ts bd n x y i (side.maps s) (side.helds s) E old held own_local long h
    own_where_held h own a counts some = own old.m held.m (sym (so.later i (omega arith)) ∙ old.there) (ap (λ qs. slice_get qs i) (sym so.held) ∙ held.there) a counts some

  abbrev pub choice_for : T → Map K V → BChoice
  choice_for u h = bv.Entries (entries_for (side.pair u).k (side.pair u).is_kind h.entries)

  -- a map that can be chosen
  pub record CanBe (u : T) (h : Map K V) : Type 0 where
    pub tidy : IsReduced (side.pair u).k.cmp (side.pair u).k.eq h
    pub counted : All (side.pair u).k.Counts (keys h)
    pub scalars : All (λ z. b.FitsScalar (side.pair u).k.base ((side.pair u).k.code z)) (values h)
    pub default : (side.pair u).k.code h.default ≡ b.default_of (side.pair u).k.base

  pub data AreNew : List T → ℕ → List (Map K V) → Type 0 where
    none_new : {i : ℕ} → AreNew [] i []
    one_new : {u : T} {us : List T} {i : ℕ} {h : Map K V} {hs : List (Map K V)} → CanBe u h → IsOwn i h u → AreNew us (i + 1) hs → AreNew (u ∷ us) i (h ∷ hs)

  abbrev pub choices_for : List T → List (Map K V) → List BChoice
  choices_for (u ∷ us) (h ∷ hs) = choice_for u h ∷ choices_for us hs
  choices_for _ _ = []

  -- the types from number i on
  abbrev pub IsRest : List T → ℕ → Type 0
  IsRest us i = (j : ℕ) → slice_get us j ≡ slice_get side.types (i + j)

  rest_first : (u : T) (us : List T) (i : ℕ) → IsRest (u ∷ us) i → slice_get side.types i ≡ Some u
  rest_first u us i rest = subst (λ j. slice_get side.types j ≡ Some u) (omega arith) (sym (rest 0))

  rest_later : (u : T) (us : List T) (i : ℕ) → IsRest (u ∷ us) i → IsRest us (i + 1)
  rest_later u us i rest j = rest (suc j) ∙ ap (slice_get side.types) (omega arith)

  -- ---- from Viper

  pub record WereForgotten (us : List T) (i n : ℕ) (hs : List (Map K V)) (s : State) (E : Env) (F : Env) : Type 0 where
    pub maps : HasMaps layout (forget_each step us i n).next now (side.with_maps s (set_from (side.maps s) i hs)) F
    pub kept : KeptBut (IsFreeLocalOf layout now) n E F

  -- one more map before others
  one_forgotten : (u : T) (us : List T) (i n : ℕ) (h : Map K V) (hs : List (Map K V)) (s : State) (E F G : Env) → KeptBut (IsFreeLocalOf layout now) n E F →
      WereForgotten us (i + 1) (n + 1) hs (side.with_maps s (slice_set (side.maps s) i h)) F G → WereForgotten (u ∷ us) i n (h ∷ hs) s E G
  one_forgotten u us i n h hs s E F G kept later =
      let ms = slice_set (side.maps s) i h in
      record {
        maps = subst (λ (t : State). HasMaps layout (forget_each step us (i + 1) (n + 1)).next now t G)
            (side.last_counts s ms (set_from (side.maps (side.with_maps s ms)) (i + 1) hs) ∙ ap (λ gs. side.with_maps s (set_from gs (i + 1) hs)) (side.maps_are s ms)) later.maps;
        kept = but_then (omega arith) kept later.kept;
      }

  none_forgotten : (i n : ℕ) (s : State) (E : Env) → HasMaps layout n now s E → WereForgotten [] i n [] s E E
  none_forgotten i n s E maps = record { maps = subst (λ t. HasMaps layout n now t E) (sym (side.itself s)) maps; kept = but_from (kept_itself n E) }

  pub forward_each : (us : List T) (i n : ℕ) (hs : List (Map K V)) (s : State) (E : Env) (cs : List BChoice) → IsRest us i → AreNew us i hs → SoFar i n s E → AreLocals ts n (forget_each step us i n).locals →
      (F : Env) × ((brun ts bd (forget_each step us i n).stmts E (choices_for us hs ++ cs) ≡ Done F cs) × WereForgotten us i n hs s E F)
  forward_each [] i n [] s E cs rest none_new so locals = (E, (refl, none_forgotten i n s E so.maps))
  forward_each (u ∷ us) i n (h ∷ hs) s E cs rest (one_new can own news) so locals =
      let there = rest_first u us i rest in let local = locals.0 in
      let new : IsNew (side.pair u) ts bd n (local_at now (side.spot i)) (local_at now (side.held_spot i)) i (side.maps s) (side.helds s) E (old u i n s E so there local) (held u i n s E so there local) (own_local u i n s E so there local) (long u i n s E so there local) h =
      record { tidy = can.tidy; counted = can.counted; scalars = can.scalars; default = can.default; own = own_where_held u i n s E so there local h own } in
      let one = forward (side.pair u) ts bd n (local_at now (side.spot i)) (local_at now (side.held_spot i)) i (side.maps s) (side.helds s) E (old u i n s E so there local) (held u i n s E so there local)
      (own_local u i n s E so there local) (long u i n s E so there local) h new (choices_for us hs ++ cs) in
      let image = filled (empty (b.default_of (side.pair u).k.base)) (entries_for (side.pair u).k (side.pair u).is_kind h.entries) in
      let F = with_both E (local_at now (side.spot i)) n image in
      let kept = kept_free u i n s E so there local image in
      let maps = side.replaced so.maps i u there h (changed u i n s E so there local image) one.has in
      let later = forward_each us (i + 1) (n + 1) hs (side.with_maps s (slice_set (side.maps s) i h)) F cs (rest_later u us i rest) news (next_so_far h so maps kept.length) locals.1 in (
        later.0,
        (
          join_done ts bd (step u i n).stmts (forget_each step us (i + 1) (n + 1)).stmts E F (choice_for u h ∷ (choices_for us hs ++ cs)) (choices_for us hs ++ cs) (same_code u i n s E so there local (choice_for u h ∷ (choices_for us hs ++ cs)) ∙ one.done)
              ∙ later.1.0,
          one_forgotten u us i n h hs s E F later.0 kept later.1.1,
        ),
      )
  forward_each [] i n (h ∷ hs) s E cs rest news so locals = elim news [ ]
  forward_each (u ∷ us) i n [] s E cs rest news so locals = elim news [ ]

  -- ---- from Boogie

  pub data WereRead : List T → ℕ → List (Map K V) → Type 0 where
    none_read : {i : ℕ} → WereRead [] i []
    one_read : {u : T} {us : List T} {i : ℕ} {h : Map K V} {hs : List (Map K V)} {image : Map Key BScalar} → IsRead (side.pair u).k (side.pair u).is_kind (side.pair u).reads (side.pair u).default image h → IsOwn i h u → All ((side.pair u).IsProperIndex bd) (keys h) → All ((side.pair u).IsProperThing bd) (values h) →
        WereRead us (i + 1) hs → WereRead (u ∷ us) i (h ∷ hs)

  pub data WereGiven : List T → List (Map K V) → List BChoice → List BChoice → Type 0 where
    none_given : {cs : List BChoice} → WereGiven [] [] cs cs
    one_given : {u : T} {us : List T} {h : Map K V} {hs : List (Map K V)} {c : BChoice} {cs rest : List BChoice} → GivesMap (side.pair u).k (side.type_for u) h c → WereGiven us hs cs rest → WereGiven (u ∷ us) (h ∷ hs) (c ∷ cs) rest

  pub record WereTaken (us : List T) (i n : ℕ) (s : State) (E : Env) (cs : List BChoice) (F : Env) (rest : List BChoice) : Type 0 where
    pub hs : List (Map K V)
    pub read : WereRead us i hs
    pub given : WereGiven us hs cs rest
    pub forgotten : WereForgotten us i n hs s E F

  -- a first map, and then others
  then_taken : (u : T) (us : List T) (i n : ℕ) (s : State) (E F : Env) (cs ds : List BChoice) (so : SoFar i n s E) (there : slice_get side.types i ≡ Some u) (local : slice_get ts n ≡ Some (side.type_for u)) →
      (one : Backward (side.pair u) ts bd n (local_at now (side.spot i)) (local_at now (side.held_spot i)) i (side.maps s) (side.helds s) E (old u i n s E so there local) (held u i n s E so there local) (own_local u i n s E so there local)
      (long u i n s E so there local) cs F ds) → (G : Env) (rest : List BChoice) → WereTaken us (i + 1) (n + 1) (side.with_maps s (slice_set (side.maps s) i one.h)) F ds G rest → WereTaken (u ∷ us) i n s E cs G rest
  then_taken u us i n s E F cs ds so there local one G rest later = record {
    hs = one.h ∷ later.hs;
    read = one_read one.is_read (λ m q is_m is_q a counts some.
        let same_m : (old u i n s E so there local).m ≡ m = same_Some _ _ (sym (old u i n s E so there local).there ∙ so.later i (omega arith) ∙ is_m) in
        let same_q : (held u i n s E so there local).m ≡ q = same_Some _ _ (sym (held u i n s E so there local).there ∙ ap (λ qs. slice_get qs i) so.held ∙ is_q) in
        ap (λ m. get (side.pair u).k.cmp m a) (sym same_m) ∙ one.own a counts (λ empty_there. some (ap (λ q. get (side.pair u).q.cmp q a) (sym same_q) ∙ empty_there))) one.proper_keys one.proper_values later.read;
    given = subst (λ es. WereGiven (u ∷ us) (one.h ∷ later.hs) es rest) (sym one.choices)
        (one_given (record { image = one.gives_map.image; given = ap (λ (w : BType). chosen w one.choice) (side.type_is u) ∙ one.gives_map.given; same = one.gives_map.same }) later.given);
    forgotten = one_forgotten u us i n one.h later.hs s E F G (subst (KeptBut (IsFreeLocalOf layout now) n E) (sym one.environment) (kept_free u i n s E so there local one.image)) later.forgotten;
  }

  -- where the run of a first piece is done
  from_then : (run : Run) (go : Env → List BChoice → Run) (G : Env) (rest : List BChoice) → then_run run go ≡ Done G rest → (F : Env) × ((ds : List BChoice) × ((run ≡ Done F ds) × (go F ds ≡ Done G rest)))
  from_then (Done F ds) go G rest h = (F, (ds, (refl, h)))
  from_then (Stops why ds) go G rest h = absurd (cc)

  pub backward_each : (us : List T) (i n : ℕ) (s : State) (E : Env) (cs : List BChoice) (G : Env) (rest : List BChoice) → IsRest us i → SoFar i n s E → AreLocals ts n (forget_each step us i n).locals → All (IsProperMove bd) cs → All b.IsReducedChoice cs →
      brun ts bd (forget_each step us i n).stmts E cs ≡ Done G rest → WereTaken us i n s E cs G rest
  backward_each [] i n s E cs G rest is_rest so locals proper reduced run = done_there (λ e. same_env e) (λ e. same_left e) run
    where
      same_env : {F H : Env} {ds es : List BChoice} → Done F ds ≡ Done H es → F ≡ H
      same_env h = cc

      same_left : {F H : Env} {ds es : List BChoice} → Done F ds ≡ Done H es → ds ≡ es
      same_left h = cc

      done_there : (Done E cs ≡ Done G rest → E ≡ G) → (Done E cs ≡ Done G rest → cs ≡ rest) → Done E cs ≡ Done G rest → WereTaken [] i n s E cs G rest
      done_there f g run = record {
        hs = [];
        read = none_read;
        given = subst (λ es. WereGiven [] [] cs es) (g run) none_given;
        forgotten = subst (WereForgotten [] i n [] s E) (f run) (none_forgotten i n s E so.maps);
      }
  backward_each (u ∷ us) i n s E cs G rest is_rest so locals proper reduced run =
      let there = rest_first u us i is_rest in let local = locals.0 in
      let parts = from_then (brun ts bd (step u i n).stmts E cs) (λ F ds. brun ts bd (forget_each step us (i + 1) (n + 1)).stmts F ds) G rest (sym (join_run ts bd (step u i n).stmts (forget_each step us (i + 1) (n + 1)).stmts E cs) ∙ run) in
      let F = parts.0 in let ds = parts.1.0 in
      let one = backward (side.pair u) ts bd n (local_at now (side.spot i)) (local_at now (side.held_spot i)) i (side.maps s) (side.helds s) E (old u i n s E so there local) (held u i n s E so there local)
      (own_local u i n s E so there local) (long u i n s E so there local) cs F ds proper reduced (sym (same_code u i n s E so there local cs) ∙ parts.1.1.0) in
      let kept = subst (KeptBut (λ j. j ≡ local_at now (side.spot i)) n E) (sym one.environment) (changed u i n s E so there local one.image) in
      let maps = side.replaced so.maps i u there one.h kept one.has in
      then_taken u us i n s E F cs ds so there local one G rest
      (backward_each us (i + 1) (n + 1) (side.with_maps s (slice_set (side.maps s) i one.h)) F ds G rest (rest_later u us i is_rest) (next_so_far one.h so maps kept.length) locals.1
      (All-tail (IsProperMove bd) one.choice ds (subst (All (IsProperMove bd)) one.choices proper)) (All-tail b.IsReducedChoice one.choice ds (subst (All b.IsReducedChoice) one.choices reduced)) parts.1.1.1)

  -- it does not fail
  pub stops_each : (us : List T) (i n : ℕ) (s : State) (E : Env) (cs : List BChoice) (why : Stop) (rest : List BChoice) → IsRest us i → SoFar i n s E → AreLocals ts n (forget_each step us i n).locals → All (IsProperMove bd) cs → All b.IsReducedChoice cs →
      brun ts bd (forget_each step us i n).stmts E cs ≡ Stops why rest → (why ≡ Blocked) ⊎ (why ≡ Short)
  stops_each [] i n s E cs why rest is_rest so locals proper reduced run = absurd (no_stop run)
    where
      no_stop : {F : Env} {ds : List BChoice} → Done F ds ≡ Stops why rest → ⊥
      no_stop h = cc
  stops_each (u ∷ us) i n s E cs why rest is_rest so locals proper reduced run =
      let there = rest_first u us i is_rest in let local = locals.0 in
      by_first (λ F ds e.
      let one = backward (side.pair u) ts bd n (local_at now (side.spot i)) (local_at now (side.held_spot i)) i (side.maps s) (side.helds s) E (old u i n s E so there local) (held u i n s E so there local)
      (own_local u i n s E so there local) (long u i n s E so there local) cs F ds proper reduced (sym (same_code u i n s E so there local cs) ∙ e) in
      let kept = subst (KeptBut (λ j. j ≡ local_at now (side.spot i)) n E) (sym one.environment) (changed u i n s E so there local one.image) in
      let maps = side.replaced so.maps i u there one.h kept one.has in
      stops_each us (i + 1) (n + 1) (side.with_maps s (slice_set (side.maps s) i one.h)) F ds why rest (rest_later u us i is_rest) (next_so_far one.h so maps kept.length) locals.1
      (All-tail (IsProperMove bd) one.choice ds (subst (All (IsProperMove bd)) one.choices proper)) (All-tail b.IsReducedChoice one.choice ds (subst (All b.IsReducedChoice) one.choices reduced)))
      (λ stop ds e. stops (side.pair u) ts bd n (local_at now (side.spot i)) (local_at now (side.held_spot i)) i (side.maps s) (side.helds s) E (old u i n s E so there local) (held u i n s E so there local)
      (own_local u i n s E so there local) (long u i n s E so there local) cs stop ds reduced (sym (same_code u i n s E so there local cs) ∙ e))
      (brun ts bd (step u i n).stmts E cs) refl (sym (join_run ts bd (step u i n).stmts (forget_each step us (i + 1) (n + 1)).stmts E cs) ∙ run)
    where
      by_first : ((F : Env) (ds : List BChoice) → brun ts bd (step u i n).stmts E cs ≡ Done F ds → brun ts bd (forget_each step us (i + 1) (n + 1)).stmts F ds ≡ Stops why rest → (why ≡ Blocked) ⊎ (why ≡ Short)) →
          ((stop : Stop) (ds : List BChoice) → brun ts bd (step u i n).stmts E cs ≡ Stops stop ds → (stop ≡ Blocked) ⊎ (stop ≡ Short)) → (r : Run) → brun ts bd (step u i n).stmts E cs ≡ r →
          then_run r (λ F ds. brun ts bd (forget_each step us (i + 1) (n + 1)).stmts F ds) ≡ Stops why rest → (why ≡ Blocked) ⊎ (why ≡ Short)
      by_first done stopped (Done F ds) e h = done F ds e h
      by_first done stopped (Stops stop ds) e h = let same : stop ≡ why = cc in subst (λ why. (why ≡ Blocked) ⊎ (why ≡ Short)) same (stopped stop ds e)
