-- The code of forgetting ends as forgetting does, in both directions.
use Rattle.std.specs.Bool.{⊤}
use Rattle.std.proofs.Common.{◌≡◌, ◌+◌, ◌<◌, ℕ, zero, suc, pos, List, [], ◌∷◌, ◌++◌, length-append, append_assoc, All, Option, Some, length, map, slice_get, slice_set, ◌⊎◌, inl, inr, refl, sym, ap, subst, ◌∙◌, arith, append-nil}
use Rattle.std.specs.List.{AllZip}
use Rattle.std.specs.Map.{values_of}
use Rattle.std.proofs.lemmas.Option.{same_Some}
use Rattle.std.proofs.lemmas.List.Elements.{All-nil, All-cons, All-head, All-tail}
use Rattle.lemmas.proofs.Lists.{zip_length}
use Rattle.sparse.specs.Map.{Map, empty, get}
use Rattle.vb_value.specs.Bound.{Bound, Unbounded, Bounded, IfBounded, IsWithin}
use Rattle.vb_value.specs.Content as content
use Rattle.vb_value.proofs.ProperLaws.{proper_whole}
use Rattle.vb_value.specs.declared.values.Ty.TheVariants as ty
use Rattle.viper_state.specs.Within.{HasValues, HasEntries}
use Rattle.vb_value.specs.Content.{Content, IsReducedContent, IsProperContent}
use Rattle.vb_value.specs.Fraction.{Fraction, none}
use Rattle.vb_value.specs.Key.{key_cmp, IsProperKey}
use Rattle.vb_value.specs.Layout.{Layout}
use Rattle.vb_value.specs.Value.{default_of, IsProperValue}
use Rattle.vb_value.specs.declared.values.Ty.{Ty}
use Rattle.vb_value.specs.declared.values.Value.{Value}
use Rattle.viper_core.specs.Typing.{Context}
use Rattle.viper_state.specs.Choice as choice
use Rattle.viper_state.specs.Choice.{Choice}
use Rattle.viper_state.specs.Event as event
use Rattle.viper_state.specs.Fits.{FitsKey, FitsValue, FitsHeap, FitsContents, FitsAmounts, FitsMemo, FitsState}
use Rattle.viper_state.proofs.MapLaws.{exact_amounts}
use Rattle.sparse.proofs.MapLaws.{Contains-keys}
use Rattle.viper_state.specs.State.{Key, Memo, State}
use Rattle.viper_state.specs.Run.{Scene}
use Rattle.viper_meaning.specs.Forgotten.{forgotten, with_memo, forget}
use Rattle.viper_meaning.specs.Kept.{IsAny}
use Rattle.viper_meaning.specs.KeptRuns.{KeepsRun}
use Rattle.viper_meaning.proofs.ForgottenLaws.{forget_fits}
use Rattle.viper_meaning.proofs.RunSignLaws.{forget_sign}
use Rattle.viper_meaning.proofs.RunWithinLaws.{forget_proper}
use Rattle.viper_meaning.specs.Run.{given, goes, noting, Goes, ran, on, since}
use Rattle.boogie_tree.specs.Program.{BType}
use Rattle.boogie_tree.specs.Value as bv
use Rattle.boogie_tree.specs.Value.{BScalar, Entry, BChoice}
use Rattle.boogie_tree.specs.Values as b
use Rattle.boogie_tree.specs.declared.exprs.BBase.TheVariants as base
use Rattle.boogie_meaning.specs.Run as r
use Rattle.boogie_meaning.specs.Run.{Done, Stop, Stops, Failed, then_run, brun}
use Rattle.moves.specs.Scalars.{scalar, base_for}
use Rattle.moves.specs.Moves.{moves, heap_choice, content_choice, memo_choices}
use Rattle.enc_expr.specs.Place.{Maps, Place, IsLocalOf}
use Rattle.enc_expr.specs.Code.{Code, Emitting, then_emit}
use Rattle.enc_expr.specs.Boundary.{HasEnded}
use Rattle.enc_expr.specs.Coupling.{Env, HasMaps, IsSound, IsCoupled, AreLocals}
use Rattle.enc_expr.specs.Alike.{KeptBut}
use Rattle.enc_expr.proofs.RunLaws.{join_run, join_done}
use Rattle.moves.proofs.MapLaws.{scalar_fits}
use Rattle.enc_expr.proofs.Simulated.{IsCounted}
use Rattle.enc_expr.proofs.CodeLaws.{then_counted}
use Rattle.enc_expr.proofs.FrameLaws.{but_less, but_then, own_apart, singles_but, locals_first, locals_rest, coupled_changed}
use Rattle.enc_assert.specs.Alongside as side
use Rattle.enc_assert.specs.Alongside.{IsGiven, IsProperMove, Waits, GoesWith, OnMoves, GiveHeaps, no_heaps, heap, GiveContents, no_contents, contents, Took, filled, nothing, IsBacked, backed, AreAlongside}
use Rattle.enc_assert.specs.Encoding.{forget_heaps, forget_contents, forget_code}
use Rattle.enc_assert.specs.Held.{IsFreeLocalOf, IsForgetting, IsForgotten, HasPlaces, field, predicate}
use Rattle.enc_assert.proofs.ForgetStep.{default_scalar}
use Rattle.enc_assert.proofs.ForgetEach as each
use Rattle.enc_assert.proofs.ForgetEach.{SoFar, CanBe, AreNew, none_new, one_new, WereRead, none_read, one_read, WereGiven, none_given, one_given, WereTaken, set_from, forget_each, step, choices_for, IsOwn, forward_each, backward_each, stops_each}
use Rattle.enc_assert.proofs.AlongsideLaws.{law_alongside}
use Rattle.enc_assert.proofs.WayLaws.{both_kept, any_run}
use Rattle.enc_assert.proofs.ForgetSides.{heap_side, content_side}
use Rattle.enc_assert.proofs.ForgottenMaps.{taken_memo, forgotten_fits, own_value, own_content, forgotten_same}

-- ---- all maps are replaced

set_here_is : {X : Type 0} (ps : List X) (x h : X) (xs : List X) → slice_set (ps ++ x ∷ xs) (length ps) h ≡ (ps ++ h ∷ []) ++ xs
set_here_is [] x h xs = refl
set_here_is (p ∷ ps) x h xs = ap (λ ys. p ∷ ys) (set_here_is ps x h xs)

set_behind : {K V : Type 0} (ps xs hs : List (Map K V)) → length xs ≡ length hs → set_from (ps ++ xs) (length ps) hs ≡ ps ++ hs
set_behind ps [] [] e = refl
set_behind ps [] (h ∷ hs) e = absurd (omega (arith, e))
set_behind ps (x ∷ xs) [] e = absurd (omega (arith, e))
set_behind ps (x ∷ xs) (h ∷ hs) e =
    ap (λ ys. set_from ys (length ps + 1) hs) (set_here_is ps x h xs)
    ∙ ap (λ i. set_from ((ps ++ h ∷ []) ++ xs) i hs) (sym (length-append ps (h ∷ [])))
    ∙ set_behind (ps ++ h ∷ []) xs hs (omega (arith, e)) ∙ append_assoc ps (h ∷ []) hs

set_all : {K V : Type 0} (xs hs : List (Map K V)) → length xs ≡ length hs → set_from xs 0 hs ≡ hs
set_all xs hs e = set_behind [] xs hs e

-- what is held is held at keys of instances
held_key : (keys_of_all : List (List Ty)) (amounts : List (Map Key Fraction)) (q : ℕ) (us : List Ty) (held : Map Key Fraction) → AllZip FitsAmounts keys_of_all amounts → slice_get keys_of_all q ≡ Some us → slice_get amounts q ≡ Some held →
    (k : Key) → (get key_cmp held k ≡ none → ⊥) → FitsKey us k
held_key [] amounts q us held h there is_held k some = absurd (cc)
held_key (v ∷ vs) [] q us held h there is_held k some = absurd h
held_key (v ∷ vs) (a ∷ amounts) zero us held h there is_held k some =
    let fit : FitsAmounts us held = subst (FitsAmounts us) (same_Some _ _ is_held) (subst (λ u. FitsAmounts u a) (same_Some _ _ there) h.0) in
    let c = Contains-keys exact_amounts held fit.reduced k (λ e. some (e ∙ fit.default)) in
    subst (FitsKey us) c.2 (fit.keys c.0 k c.1)
held_key (v ∷ vs) (a ∷ amounts) (suc q) us held h there is_held k some = held_key vs amounts q us held h.1 there is_held k some

proper_zero : (bd : Bound) → IfBounded bd (IsWithin (pos 0))
proper_zero Unbounded = tt
proper_zero Bounded = omega arith

proper_unit : (bd : Bound) → IsProperContent bd content.Unit
proper_unit Unbounded = record { small = tt; values = tt }
proper_unit Bounded = record { small = omega arith; values = tt }

module _ (m : Maps) where
  heaps_counted : (us : List Ty) (i n : ℕ) → n + length (forget_heaps m us i n).locals ≡ (forget_heaps m us i n).next
  heaps_counted [] i n = omega arith
  heaps_counted (u ∷ us) i n = omega (arith, heaps_counted us (i + 1) (n + 1))

  contents_counted : (us : List (List Ty)) (i n : ℕ) → n + length (forget_contents m us i n).locals ≡ (forget_contents m us i n).next
  contents_counted [] i n = omega arith
  contents_counted (u ∷ us) i n = omega (arith, contents_counted us (i + 1) (n + 1))

  pub forget_counted : (layout : Layout) → IsCounted (forget_code layout m)
  forget_counted layout =
      then_counted (forget_heaps m layout.fields 0) (λ x. forget_contents m layout.keys 0) (record { next = heaps_counted layout.fields 0 }) (λ x. record { next = contents_counted layout.keys 0 })

module _ (ts : List BType) (bd : Bound) (c : Context) (p : Place) (own : IsForgetting c p) (s : State) (sc : Scene) where
  abbrev layout : Layout
  layout = c.program.layout

  -- ---- the code, map after map

  abbrev heaps_code : List Ty → ℕ → Emitting ⊤
  heaps_code = forget_each (step (heap_side layout p.now own) ts bd s)

  heaps_each : (us : List Ty) (i n : ℕ) → forget_heaps p.now us i n ≡ heaps_code us i n
  heaps_each [] i n = refl
  heaps_each (u ∷ us) i n = ap (λ (m : Emitting ⊤). then_emit (step (heap_side layout p.now own) ts bd s u i) (λ x. m) n) (λ j k. heaps_each us (i + 1) k j)

  contents_each : (t : State) (us : List (List Ty)) (i n : ℕ) → forget_contents p.now us i n ≡ forget_each (step (content_side layout p.now own) ts bd t) us i n
  contents_each t [] i n = refl
  contents_each t (u ∷ us) i n = ap (λ (m : Emitting ⊤). then_emit (step (content_side layout p.now own) ts bd t u i) (λ x. m) n) (λ j k. contents_each t us (i + 1) k j)

  -- ---- from Viper

  module _ (fits : FitsState layout s) (m : Memo) (memo : FitsMemo layout m) where
    abbrev left : Memo
    left = forgotten s m

    left_fits : FitsState layout (with_memo s left)
    left_fits = forgotten_fits layout s m fits memo

    heap_can : (u : Ty) (h : Map ℕ Value) → FitsHeap u h → CanBe (heap_side layout p.now own) ts bd s u h
    heap_can u h fit = record { tidy = fit.reduced; counted = fit.keys; scalars = heap_scalars u h.entries fit.values; default = ap scalar fit.default ∙ default_scalar u }
      where
        heap_scalars : (u : Ty) (es : List (ℕ × Value)) → All (FitsValue u) (values_of es) → All (λ z. b.FitsScalar (base_for u) (scalar z)) (values_of es)
        heap_scalars u [] h = All-nil (λ z. b.FitsScalar (base_for u) (scalar z))
        heap_scalars u (e ∷ es) h =
            let first = All-head (FitsValue u) e.1 (values_of es) h in
            All-cons (λ z. b.FitsScalar (base_for u) (scalar z)) e.1 (values_of es) (subst (λ w. b.FitsScalar (base_for w) (scalar e.1)) first.typed (scalar_fits e.1 first.reduced)) (heap_scalars u es (All-tail (FitsValue u) e.1 (values_of es) h))

    content_can : (us : List Ty) (h : Map Key Content) → FitsContents us h → CanBe (content_side layout p.now own) ts bd (record s { heap = left.heap }) us h
    content_can us h fit = record { tidy = fit.reduced; counted = fit.keys; scalars = content_scalars h.entries fit.values; default = ap bv.Snap fit.default }
      where
        content_scalars : (es : List (Key × Content)) → All IsReducedContent (values_of es) → All (λ z. b.FitsScalar base.Snap (bv.Snap z)) (values_of es)
        content_scalars [] h = All-nil (λ z. b.FitsScalar base.Snap (bv.Snap z))
        content_scalars (e ∷ es) h =
            All-cons (λ z. b.FitsScalar base.Snap (bv.Snap z)) e.1 (values_of es) (record { typed = refl; reduced = All-head IsReducedContent e.1 (values_of es) h }) (content_scalars es (All-tail IsReducedContent e.1 (values_of es) h))

    new_heaps : (us : List Ty) (i : ℕ) (hs : List (Map ℕ Value)) → ((j : ℕ) → slice_get us j ≡ slice_get layout.fields (i + j)) → ((j : ℕ) → slice_get hs j ≡ slice_get left.heap (i + j)) → AllZip FitsHeap us hs →
        AreNew (heap_side layout p.now own) ts bd s us i hs
    new_heaps [] i [] types maps h = none_new
    new_heaps [] i (x ∷ hs) types maps h = absurd h
    new_heaps (u ∷ us) i [] types maps h = absurd h
    new_heaps (u ∷ us) i (x ∷ hs) types maps h =
        one_new (heap_can u x h.0)
        (λ mine q is_m is_q r counts some. own_value layout s m fits memo i u (subst (λ j. slice_get layout.fields j ≡ Some u) (omega arith) (sym (types 0))) mine x q is_m (subst (λ j. slice_get left.heap j ≡ Some x) (omega arith) (sym (maps 0))) is_q r some)
        (new_heaps us (i + 1) hs (λ j. types (suc j) ∙ ap (slice_get layout.fields) (omega arith)) (λ j. maps (suc j) ∙ ap (slice_get left.heap) (omega arith)) h.1)

    new_contents : (us : List (List Ty)) (i : ℕ) (hs : List (Map Key Content)) → ((j : ℕ) → slice_get us j ≡ slice_get layout.keys (i + j)) → ((j : ℕ) → slice_get hs j ≡ slice_get left.content (i + j)) → AllZip FitsContents us hs →
        AreNew (content_side layout p.now own) ts bd (record s { heap = left.heap }) us i hs
    new_contents [] i [] types maps h = none_new
    new_contents [] i (x ∷ hs) types maps h = absurd h
    new_contents (u ∷ us) i [] types maps h = absurd h
    new_contents (u ∷ us) i (x ∷ hs) types maps h =
        one_new (content_can u x h.0)
        (λ mine q is_m is_q r counts some. own_content layout s m fits memo i u (subst (λ j. slice_get layout.keys j ≡ Some u) (omega arith) (sym (types 0))) mine x q is_m (subst (λ j. slice_get left.content j ≡ Some x) (omega arith) (sym (maps 0))) is_q r some)
        (new_contents us (i + 1) hs (λ j. types (suc j) ∙ ap (slice_get layout.keys) (omega arith)) (λ j. maps (suc j) ∙ ap (slice_get left.content) (omega arith)) h.1)

    heap_choices : (us : List Ty) (hs : List (Map ℕ Value)) → AllZip FitsHeap us hs → choices_for (heap_side layout p.now own) ts bd s us hs ≡ map heap_choice hs
    heap_choices [] [] h = refl
    heap_choices [] (x ∷ hs) h = absurd h
    heap_choices (u ∷ us) [] h = absurd h
    heap_choices (u ∷ us) (x ∷ hs) h = ap (λ cs. heap_choice x ∷ cs) (heap_choices us hs h.1)

    content_choices : (us : List (List Ty)) (hs : List (Map Key Content)) → AllZip FitsContents us hs → choices_for (content_side layout p.now own) ts bd (record s { heap = left.heap }) us hs ≡ map content_choice hs
    content_choices [] [] h = refl
    content_choices [] (x ∷ hs) h = absurd h
    content_choices (u ∷ us) [] h = absurd h
    content_choices (u ∷ us) (x ∷ hs) h = ap (λ cs. content_choice x ∷ cs) (content_choices us hs h.1)

  -- ---- an environment in which the state is coupled

  module _ (n : ℕ) (E : Env) (coupled : IsCoupled bd c n p s sc E) (full : length E ≡ length ts) (locals : AreLocals ts n (forget_code layout p.now n).locals) where
    abbrev heaps_part : Code ⊤
    heaps_part = forget_heaps p.now layout.fields 0 n

    abbrev middle : ℕ
    middle = heaps_part.next

    abbrev contents_part : Code ⊤
    contents_part = forget_contents p.now layout.keys 0 middle

    heaps_so : SoFar (heap_side layout p.now own) ts bd s 0 n s E
    heaps_so = record { maps = coupled.now; later = λ j above. refl; held = refl; full = full }

    heaps_locals : AreLocals ts n (heaps_code layout.fields 0 n).locals
    heaps_locals = subst (λ (m : Code ⊤). AreLocals ts n m.locals) (heaps_each layout.fields 0 n) (locals_first ts n heaps_part.locals contents_part.locals locals)

    counted : n + length heaps_part.locals ≡ middle
    counted = heaps_counted p.now layout.fields 0 n

    contents_locals : (t : State) → AreLocals ts middle (forget_each (step (content_side layout p.now own) ts bd t) layout.keys 0 middle).locals
    contents_locals t =
        subst (λ (m : Code ⊤). AreLocals ts middle m.locals) (contents_each t layout.keys 0 middle)
        (subst (λ i. AreLocals ts i contents_part.locals) counted (locals_rest ts n heaps_part.locals contents_part.locals locals))

    -- what is left, in other maps, before it is known to be sound
    pub record IsLeft (t : State) (F : Env) : Type 0 where
      pub kept : KeptBut (IsFreeLocalOf layout p.now) n E F
      pub maps : HasMaps layout (forget_code layout p.now n).next p.now t F

    -- the contents after the heaps
    contents_so : (t : State) (F : Env) → HasMaps layout middle p.now t F → length F ≡ length E → SoFar (content_side layout p.now own) ts bd t 0 middle t F
    contents_so t F maps long = record { maps = maps; later = λ j above. refl; held = refl; full = long ∙ full }

    forth : (fits : FitsState layout s) (m : Memo) (memo : FitsMemo layout m) (cs : List BChoice) → (F : Env) × ((brun ts bd (forget_code layout p.now n).stmts E (memo_choices (forgotten s m) ++ cs) ≡ Done F cs) × IsLeft (with_memo s (forgotten s m)) F)
    forth fits m memo cs =
        let left = forgotten s m in let fit = left_fits fits m memo in
        let t = record s { heap = left.heap } in
        let later = map content_choice left.content ++ cs in
        let one = forward_each (heap_side layout p.now own) ts bd s layout.fields 0 n left.heap s E later (λ j. ap (slice_get layout.fields) (omega arith)) (new_heaps fits m memo layout.fields 0 left.heap (λ j. ap (slice_get layout.fields) (omega arith)) (λ j. ap (slice_get left.heap) (omega arith)) fit.heap) heaps_so heaps_locals in
        let F = one.0 in
        let all_heaps : set_from s.heap 0 left.heap ≡ left.heap = set_all s.heap left.heap (omega (arith, zip_length FitsHeap layout.fields s.heap fits.heap, zip_length FitsHeap layout.fields left.heap fit.heap)) in
        let maps1 : HasMaps layout middle p.now t F = subst (λ (i : ℕ). HasMaps layout i p.now t F) (sym (ap (λ (m : Code ⊤). m.next) (heaps_each layout.fields 0 n)))
        (subst (λ hs. HasMaps layout (heaps_code layout.fields 0 n).next p.now (record s { heap = hs }) F) all_heaps one.1.1.maps) in
        let run1 : brun ts bd heaps_part.stmts E (map heap_choice left.heap ++ later) ≡ Done F later =
        (λ j. brun ts bd (heaps_each layout.fields 0 n j).stmts E (sym (heap_choices fits m memo layout.fields left.heap fit.heap) j ++ later)) ∙ one.1.0 in
        let two = forward_each (content_side layout p.now own) ts bd t layout.keys 0 middle left.content t F cs (λ j. ap (slice_get layout.keys) (omega arith)) (new_contents fits m memo layout.keys 0 left.content (λ j. ap (slice_get layout.keys) (omega arith)) (λ j. ap (slice_get left.content) (omega arith)) fit.content)
        (contents_so t F maps1 one.1.1.kept.length) (contents_locals t) in
        let G = two.0 in
        let all_contents : set_from s.content 0 left.content ≡ left.content =
        set_all s.content left.content (omega (arith, zip_length FitsContents layout.keys s.content fits.content, zip_length FitsContents layout.keys left.content fit.content)) in
        let run2 : brun ts bd contents_part.stmts F later ≡ Done G cs =
        (λ j. brun ts bd (contents_each t layout.keys 0 middle j).stmts F (sym (content_choices fits m memo layout.keys left.content fit.content) j ++ cs)) ∙ two.1.0 in (
          G,
          (
            ap (brun ts bd (forget_code layout p.now n).stmts E) (append_assoc (map heap_choice left.heap) (map content_choice left.content) cs)
                ∙ join_done ts bd heaps_part.stmts contents_part.stmts E F (map heap_choice left.heap ++ later) later run1 ∙ run2,
            record {
              kept = but_then (omega (arith, counted)) one.1.1.kept two.1.1.kept;
              maps = subst (λ (i : ℕ). HasMaps layout i p.now (with_memo s left) G) (sym (ap (λ (m : Code ⊤). m.next) (contents_each t layout.keys 0 middle)))
                  (subst (λ hs. HasMaps layout (forget_each (step (content_side layout p.now own) ts bd t) layout.keys 0 middle).next p.now (record t { content = hs }) G) all_contents two.1.1.maps);
            },
          ),
        )

    -- ---- from Boogie

    pub record WasTaken (cs : List BChoice) (G : Env) (rest : List BChoice) : Type 0 where
      pub hs : List (Map ℕ Value)
      pub gs : List (Map Key Content)
      pub read_hs : WereRead (heap_side layout p.now own) ts bd s layout.fields 0 hs
      pub read_gs : WereRead (content_side layout p.now own) ts bd (record s { heap = hs }) layout.keys 0 gs
      pub between : List BChoice
      pub given_hs : WereGiven (heap_side layout p.now own) ts bd s layout.fields hs cs between
      pub given_gs : WereGiven (content_side layout p.now own) ts bd (record s { heap = hs }) layout.keys gs between rest
      pub kept : KeptBut (IsFreeLocalOf layout p.now) n E G
      pub maps : HasMaps layout (forget_code layout p.now n).next p.now (record s { heap = hs; content = gs }) G

    -- the run of the first part, and what goes on
    parts_of : (run : r.Run) (go : Env → List BChoice → r.Run) (G : Env) (rest : List BChoice) → then_run run go ≡ Done G rest → (F : Env) × ((ds : List BChoice) × ((run ≡ Done F ds) × (go F ds ≡ Done G rest)))
    parts_of (Done F ds) go G rest h = (F, (ds, (refl, h)))
    parts_of (Stops why ds) go G rest h = absurd (cc)

    all_reduced : (cs : List BChoice) → All (IsProperMove bd) cs → All b.IsReducedChoice cs
    all_reduced [] h = All-nil b.IsReducedChoice
    all_reduced (d ∷ cs) h = All-cons b.IsReducedChoice d cs (reduced_choice d (All-head (IsProperMove bd) d cs h)) (all_reduced cs (All-tail (IsProperMove bd) d cs h))
      where
        reduced_scalar : (w : BScalar) → side.IsProperScalar bd w → b.IsReducedScalar w
        reduced_scalar (bv.Int z) h = tt
        reduced_scalar (bv.Bool z) h = tt
        reduced_scalar (bv.Ref z) h = tt
        reduced_scalar (bv.Real q) h = h.reduced
        reduced_scalar (bv.Snap d) h = h.0

        reduced_entries : (es : List Entry) → All (side.IsProperEntry bd) es → All b.IsReducedEntry es
        reduced_entries [] h = All-nil b.IsReducedEntry
        reduced_entries (e ∷ es) h = All-cons b.IsReducedEntry e es (reduced_scalar e.value (All-head (side.IsProperEntry bd) e es h).1) (reduced_entries es (All-tail (side.IsProperEntry bd) e es h))

        reduced_choice : (d : BChoice) → IsProperMove bd d → b.IsReducedChoice d
        reduced_choice (bv.Pick q) h = tt
        reduced_choice (bv.Value w) h = reduced_scalar w h
        reduced_choice (bv.Entries es) h = reduced_entries es h

    heaps_rest : (j : ℕ) → slice_get layout.fields j ≡ slice_get layout.fields (0 + j)
    heaps_rest j = ap (slice_get layout.fields) (omega arith)

    contents_rest : (j : ℕ) → slice_get layout.keys j ≡ slice_get layout.keys (0 + j)
    contents_rest j = ap (slice_get layout.keys) (omega arith)

    heaps_back : (fits : FitsState layout s) (cs : List BChoice) (F : Env) (ds : List BChoice) → All (IsProperMove bd) cs → brun ts bd heaps_part.stmts E cs ≡ Done F ds → WereTaken (heap_side layout p.now own) ts bd s layout.fields 0 n s E cs F ds
    heaps_back fits cs F ds proper run =
        backward_each (heap_side layout p.now own) ts bd s layout.fields 0 n s E cs F ds heaps_rest heaps_so heaps_locals proper (all_reduced cs proper) ((λ j. brun ts bd (sym (heaps_each layout.fields 0 n) j).stmts E cs) ∙ run)

    read_length : {T K V : Type 0} {sd : each.Side layout p.now T K V} {t : State} (us : List T) (i : ℕ) (hs : List (Map K V)) → WereRead sd ts bd t us i hs → length us ≡ length hs
    read_length [] i [] none_read = refl
    read_length (u ∷ us) i (h ∷ hs) (one_read is own pk pv later) = omega (arith, read_length us (i + 1) hs later)
    read_length [] i (h ∷ hs) reads = elim reads [ ]
    read_length (u ∷ us) i [] reads = elim reads [ ]

    given_behind : {T K V : Type 0} {sd : each.Side layout p.now T K V} {t : State} (P : BChoice → Type 0) {us : List T} {hs : List (Map K V)} {cs rest : List BChoice} → WereGiven sd ts bd t us hs cs rest → All P cs → All P rest
    given_behind P none_given h = h
    given_behind P (one_given {c = d} {cs = cs} g later) h = given_behind P later (All-tail P d cs h)

    was_taken : (fits : FitsState layout s) (cs : List BChoice) (G : Env) (rest : List BChoice) → All (IsProperMove bd) cs → brun ts bd (forget_code layout p.now n).stmts E cs ≡ Done G rest → WasTaken cs G rest
    was_taken fits cs G rest proper run =
        let parts = parts_of (brun ts bd heaps_part.stmts E cs) (λ F ds. brun ts bd contents_part.stmts F ds) G rest (sym (join_run ts bd heaps_part.stmts contents_part.stmts E cs) ∙ run) in
        let F = parts.0 in let ds = parts.1.0 in
        let one = heaps_back fits cs F ds proper parts.1.1.0 in
        let t = record s { heap = one.hs } in
        let all_heaps : set_from s.heap 0 one.hs ≡ one.hs = set_all s.heap one.hs (omega (arith, zip_length FitsHeap layout.fields s.heap fits.heap, read_length {sd = heap_side layout p.now own} {t = s} layout.fields 0 one.hs one.read)) in
        let maps1 : HasMaps layout middle p.now t F = subst (λ (i : ℕ). HasMaps layout i p.now t F) (sym (ap (λ (m : Code ⊤). m.next) (heaps_each layout.fields 0 n)))
        (subst (λ hs. HasMaps layout (heaps_code layout.fields 0 n).next p.now (record s { heap = hs }) F) all_heaps one.forgotten.maps) in
        let two = backward_each (content_side layout p.now own) ts bd t layout.keys 0 middle t F ds G rest contents_rest (contents_so t F maps1 one.forgotten.kept.length) (contents_locals t)
        (given_behind {sd = heap_side layout p.now own} {t = s} (IsProperMove bd) one.given proper) (all_reduced ds (given_behind {sd = heap_side layout p.now own} {t = s} (IsProperMove bd) one.given proper)) ((λ j. brun ts bd (sym (contents_each t layout.keys 0 middle) j).stmts F ds) ∙ parts.1.1.1) in
        let all_contents : set_from s.content 0 two.hs ≡ two.hs =
        set_all s.content two.hs (omega (arith, zip_length FitsContents layout.keys s.content fits.content, read_length {sd = content_side layout p.now own} {t = t} layout.keys 0 two.hs two.read)) in
        record {
          hs = one.hs;
          gs = two.hs;
          read_hs = one.read;
          read_gs = two.read;
          between = ds;
          given_hs = one.given;
          given_gs = two.given;
          kept = but_then (omega (arith, counted)) one.forgotten.kept two.forgotten.kept;
          maps = subst (λ (i : ℕ). HasMaps layout i p.now (record s { heap = one.hs; content = two.hs }) G) (sym (ap (λ (m : Code ⊤). m.next) (contents_each t layout.keys 0 middle)))
              (subst (λ hs. HasMaps layout (forget_each (step (content_side layout p.now own) ts bd t) layout.keys 0 middle).next p.now (record t { content = hs }) G) all_contents two.forgotten.maps);
        }

    -- ---- the memo that was taken

    module _ (fits : FitsState layout s) {cs rest : List BChoice} {G : Env} (proper : All (IsProperMove bd) cs) (w : WasTaken cs G rest) where
      abbrev memo : Memo
      memo = record { heap = w.hs; content = w.gs }

      heaps_fit : (us : List Ty) (i : ℕ) (hs : List (Map ℕ Value)) → WereRead (heap_side layout p.now own) ts bd s us i hs → AllZip FitsHeap us hs
      heaps_fit [] i [] none_read = tt
      heaps_fit (u ∷ us) i (h ∷ hs) (one_read is mine pk pv later) = (record { default = is.default; reduced = is.reduced; keys = is.keys; values = is.values }, heaps_fit us (i + 1) hs later)
      heaps_fit [] i (h ∷ hs) reads = elim reads [ ]
      heaps_fit (u ∷ us) i [] reads = elim reads [ ]

      contents_fit : (us : List (List Ty)) (i : ℕ) (hs : List (Map Key Content)) → WereRead (content_side layout p.now own) ts bd (record s { heap = w.hs }) us i hs → AllZip FitsContents us hs
      contents_fit [] i [] none_read = tt
      contents_fit (u ∷ us) i (h ∷ hs) (one_read is mine pk pv later) = (record { default = is.default; reduced = is.reduced; keys = is.keys; values = is.values }, contents_fit us (i + 1) hs later)
      contents_fit [] i (h ∷ hs) reads = elim reads [ ]
      contents_fit (u ∷ us) i [] reads = elim reads [ ]

      memo_fits : FitsMemo layout memo
      memo_fits = record { heap = heaps_fit layout.fields 0 w.hs w.read_hs; content = contents_fit layout.keys 0 w.gs w.read_gs }

      -- it agrees with the state where something is held
      read_own : {T K V : Type 0} (sd : each.Side layout p.now T K V) (t : State) (us : List T) (i : ℕ) (hs : List (Map K V)) → WereRead sd ts bd t us i hs → (j : ℕ) (u : T) (h : Map K V) → slice_get us j ≡ Some u → slice_get hs j ≡ Some h →
          IsOwn sd ts bd t (i + j) h u
      read_own sd t [] i hs reads j u h e f = absurd (cc)
      read_own sd t (v ∷ us) i [] reads j u h e f = elim reads [ ]
      read_own sd t (v ∷ us) i (g ∷ hs) (one_read is mine pk pv later) zero u h e f =
          subst (λ k. IsOwn sd ts bd t k h u) (omega arith) (subst (λ h. IsOwn sd ts bd t i h u) (same_Some _ _ f) (subst (λ u. IsOwn sd ts bd t i g u) (same_Some _ _ e) mine))
      read_own sd t (v ∷ us) i (g ∷ hs) (one_read is mine pk pv later) (suc j) u h e f = subst (λ k. IsOwn sd ts bd t k h u) (omega arith) (read_own sd t us (i + 1) hs later j u h e f)

      same_memo : forgotten s memo ≡ memo
      same_memo = forgotten_same layout s memo fits memo_fits
          (λ f u there new old_map held is_new is_old is_held r some.
          read_own (heap_side layout p.now own) s layout.fields 0 w.hs w.read_hs f u new there is_new old_map held (subst (λ k. slice_get s.heap k ≡ Some old_map) (omega arith) is_old) (subst (λ k. slice_get s.mask k ≡ Some held) (omega arith) is_held) r tt some)
          (λ q us there new old_map held is_new is_old is_held k some.
          read_own (content_side layout p.now own) (record s { heap = w.hs }) layout.keys 0 w.gs w.read_gs q us new there is_new old_map held (subst (λ k. slice_get s.content k ≡ Some old_map) (omega arith) is_old)
          (subst (λ k. slice_get s.amount k ≡ Some held) (omega arith) is_held) k (held_key layout.keys s.amount q us held fits.amount there is_held k some) some)

      -- the run takes it
      taken : on (forget layout s) (choice.Filled memo ∷ []) ≡ ran (event.Whole (forgotten s memo) ∷ []) (Goes (with_memo s (forgotten s memo))) []
      taken = ap (λ (o : Option Memo). since [] (on (given o (λ m. noting (event.Whole (forgotten s m)) (goes (with_memo s (forgotten s m))))) [])) (taken_memo layout memo memo_fits)

      gave_heaps : (us : List Ty) (hs : List (Map ℕ Value)) (ds es : List BChoice) → WereGiven (heap_side layout p.now own) ts bd s us hs ds es → GiveHeaps us hs ds es
      gave_heaps [] [] ds es none_given = no_heaps
      gave_heaps (u ∷ us) (h ∷ hs) (d ∷ ds) es (one_given g later) = heap g (gave_heaps us hs ds es later)
      gave_heaps [] (h ∷ hs) ds es g = elim g [ ]
      gave_heaps (u ∷ us) [] ds es g = elim g [ ]
      gave_heaps (u ∷ us) (h ∷ hs) [] es g = elim g [ ]

      gave_contents : (us : List (List Ty)) (hs : List (Map Key Content)) (ds es : List BChoice) → WereGiven (content_side layout p.now own) ts bd (record s { heap = w.hs }) us hs ds es → GiveContents us hs ds es
      gave_contents [] [] ds es none_given = no_contents
      gave_contents (u ∷ us) (h ∷ hs) (d ∷ ds) es (one_given g later) = contents g (gave_contents us hs ds es later)
      gave_contents [] (h ∷ hs) ds es g = elim g [ ]
      gave_contents (u ∷ us) [] ds es g = elim g [ ]
      gave_contents (u ∷ us) (h ∷ hs) [] es g = elim g [ ]

      took : Took layout (event.Whole (forgotten s memo) ∷ []) cs rest
      took = subst (λ m. Took layout (event.Whole m ∷ []) cs rest) (sym same_memo) (filled (gave_heaps layout.fields w.hs cs w.between w.given_hs) (gave_contents layout.keys w.gs w.between rest w.given_gs) nothing)

      -- it is proper
      heaps_proper : (us : List Ty) (i : ℕ) (hs : List (Map ℕ Value)) → WereRead (heap_side layout p.now own) ts bd s us i hs → All (HasValues (IsProperValue bd)) hs
      heaps_proper [] i [] none_read = All-nil (HasValues (IsProperValue bd))
      heaps_proper (u ∷ us) i (h ∷ hs) (one_read is mine pk pv later) =
          All-cons (HasValues (IsProperValue bd)) h hs (record { default = subst (IsProperValue bd) (sym is.default) (default_proper u); others = pv }) (heaps_proper us (i + 1) hs later)
        where
          default_proper : (u : Ty) → IsProperValue bd (default_of u)
          default_proper ty.Int = proper_zero bd
          default_proper ty.Bool = tt
          default_proper ty.Ref = tt
          default_proper ty.Perm = proper_whole bd (pos 0) (proper_zero bd)
      heaps_proper [] i (h ∷ hs) reads = elim reads [ ]
      heaps_proper (u ∷ us) i [] reads = elim reads [ ]

      contents_proper : (us : List (List Ty)) (i : ℕ) (hs : List (Map Key Content)) → WereRead (content_side layout p.now own) ts bd (record s { heap = w.hs }) us i hs → All (HasEntries (IsProperKey bd) (IsProperContent bd)) hs
      contents_proper [] i [] none_read = All-nil (HasEntries (IsProperKey bd) (IsProperContent bd))
      contents_proper (u ∷ us) i (h ∷ hs) (one_read is mine pk pv later) =
          All-cons (HasEntries (IsProperKey bd) (IsProperContent bd)) h hs (record { keys = pk; values = record { default = subst (IsProperContent bd) (sym is.default) (proper_unit bd); others = pv } }) (contents_proper us (i + 1) hs later)
      contents_proper [] i (h ∷ hs) reads = elim reads [ ]
      contents_proper (u ∷ us) i [] reads = elim reads [ ]

      memo_given : IsGiven bd layout (choice.Filled memo)
      memo_given = record { proper = record { heap = heaps_proper layout.fields 0 w.hs w.read_hs; content = contents_proper layout.keys 0 w.gs w.read_gs }; fits = memo_fits }

    -- ---- no choice is left

    none_taken : {cs rest : List BChoice} {G : Env} → cs ≡ [] → HasPlaces layout → WasTaken cs G rest → ⊥
    none_taken empty (field some) w = no_heap layout.fields w.hs empty some w.given_hs
      where
        no_heap : (us : List Ty) (hs : List (Map ℕ Value)) {ds es : List BChoice} → ds ≡ [] → 0 < length us → WereGiven (heap_side layout p.now own) ts bd s us hs ds es → ⊥
        no_heap [] hs e some g = omega (arith, some)
        no_heap (u ∷ us) (h ∷ hs) e some (one_given g later) = cc
        no_heap (u ∷ us) [] e some g = elim g [ ]
    none_taken empty (predicate some) w = no_content layout.keys w.gs (still_none layout.fields w.hs empty w.given_hs) some w.given_gs
      where
        still_none : (us : List Ty) (hs : List (Map ℕ Value)) {ds es : List BChoice} → ds ≡ [] → WereGiven (heap_side layout p.now own) ts bd s us hs ds es → es ≡ []
        still_none [] [] e none_given = e
        still_none (u ∷ us) (h ∷ hs) e (one_given g later) = absurd (cc)
        still_none [] (h ∷ hs) e g = elim g [ ]
        still_none (u ∷ us) [] e g = elim g [ ]

        no_content : (us : List (List Ty)) (hs : List (Map Key Content)) {ds es : List BChoice} → ds ≡ [] → 0 < length us → WereGiven (content_side layout p.now own) ts bd (record s { heap = w.hs }) us hs ds es → ⊥
        no_content [] hs e some g = omega (arith, some)
        no_content (u ∷ us) (h ∷ hs) e some (one_given g later) = cc
        no_content (u ∷ us) [] e some g = elim g [ ]

    -- ---- it does not fail

    code_stops : (fits : FitsState layout s) (cs : List BChoice) (why : Stop) (rest : List BChoice) → All (IsProperMove bd) cs → brun ts bd (forget_code layout p.now n).stmts E cs ≡ Stops why rest → (why ≡ r.Blocked) ⊎ (why ≡ r.Short)
    code_stops fits cs why rest proper run = by_heaps (brun ts bd heaps_part.stmts E cs) refl (sym (join_run ts bd heaps_part.stmts contents_part.stmts E cs) ∙ run)
      where
        same_why : {x y : Stop} {ds es : List BChoice} → Stops x ds ≡ Stops y es → x ≡ y
        same_why h = cc

        by_heaps : (q : r.Run) → brun ts bd heaps_part.stmts E cs ≡ q → then_run q (λ F ds. brun ts bd contents_part.stmts F ds) ≡ Stops why rest → (why ≡ r.Blocked) ⊎ (why ≡ r.Short)
        by_heaps (Stops stop ds) e h =
            subst (λ why. (why ≡ r.Blocked) ⊎ (why ≡ r.Short)) (same_why h)
            (stops_each (heap_side layout p.now own) ts bd s layout.fields 0 n s E cs stop ds heaps_rest heaps_so heaps_locals proper (all_reduced cs proper) ((λ j. brun ts bd (sym (heaps_each layout.fields 0 n) j).stmts E cs) ∙ e))
        by_heaps (Done F ds) e h =
            let one = heaps_back fits cs F ds proper e in
            let t = record s { heap = one.hs } in
            let all_heaps : set_from s.heap 0 one.hs ≡ one.hs = set_all s.heap one.hs (omega (arith, zip_length FitsHeap layout.fields s.heap fits.heap, read_length {sd = heap_side layout p.now own} {t = s} layout.fields 0 one.hs one.read)) in
            let maps1 : HasMaps layout middle p.now t F = subst (λ (i : ℕ). HasMaps layout i p.now t F) (sym (ap (λ (m : Code ⊤). m.next) (heaps_each layout.fields 0 n)))
            (subst (λ hs. HasMaps layout (heaps_code layout.fields 0 n).next p.now (record s { heap = hs }) F) all_heaps one.forgotten.maps) in
            let left = given_behind {sd = heap_side layout p.now own} {t = s} (IsProperMove bd) one.given proper in
            stops_each (content_side layout p.now own) ts bd t layout.keys 0 middle t F ds why rest contents_rest (contents_so t F maps1 one.forgotten.kept.length) (contents_locals t) left (all_reduced ds left)
            ((λ j. brun ts bd (sym (contents_each t layout.keys 0 middle) j).stmts F ds) ∙ h)

    -- ---- both directions

    abbrev running : List BChoice → r.Run
    running cs = brun ts bd (forget_code layout p.now n).stmts E cs

    waits : (fits : FitsState layout s) (cs : List BChoice) → HasPlaces layout → cs ≡ [] → Waits (running cs)
    waits fits cs some empty = by_run (running cs) refl
      where
        proper : All (IsProperMove bd) cs
        proper = subst (All (IsProperMove bd)) (sym empty) (All-nil (IsProperMove bd))

        by_run : (q : r.Run) → running cs ≡ q → Waits q
        by_run (Done G rest) e = absurd (none_taken empty some (was_taken fits cs G rest proper e))
        by_run (Stops why rest) e = elim (code_stops fits cs why rest proper e) [
          | inl same ↦ subst (λ why. Waits (Stops why rest)) (sym same) tt
          | inr same ↦ subst (λ why. Waits (Stops why rest)) (sym same) tt
        ]

    on_moves : (fits : FitsState layout s) (choices : List Choice) (more : List BChoice) → All (IsGiven bd layout) choices → OnMoves (HasPlaces layout) IsLeft bd more running (on (forget layout s) choices)
    on_moves fits [] more all = side.short (λ some empty. waits fits more some empty)
    on_moves fits (choice.Filled m ∷ choices) more all =
        let memo_fit = (All-head (IsGiven bd layout) (choice.Filled m) choices all).fits in
        let left = forgotten s m in
        let f = forth fits m memo_fit more in
        let run : running (moves (event.Whole left ∷ []) ++ more) ≡ Done f.0 more = ap (λ ds. running (ds ++ more)) (append-nil (memo_choices left)) ∙ f.1.0 in
        subst (OnMoves (HasPlaces layout) IsLeft bd more running) (ap (λ (o : Option Memo). since [] (on (given o (λ m. noting (event.Whole (forgotten s m)) (goes (with_memo s (forgotten s m))))) choices)) (sym (taken_memo layout m memo_fit)))
        (subst (GoesWith (HasPlaces layout) IsLeft bd more (Goes (with_memo s left))) (sym run) (side.GoesWith.done f.1.1))
    on_moves fits (choice.Branch q ∷ choices) more all = side.blocked (λ some empty. waits fits more some empty)
    on_moves fits (choice.Took w ∷ choices) more all = side.blocked (λ some empty. waits fits more some empty)
    on_moves fits (choice.Amount q ∷ choices) more all = side.blocked (λ some empty. waits fits more some empty)
    on_moves fits (choice.Fresh x ∷ choices) more all = side.blocked (λ some empty. waits fits more some empty)

    each_run : (fits : FitsState layout s) (cs : List BChoice) → All (IsProperMove bd) cs → HasEnded (running cs) → IsBacked bd layout IsLeft (forget layout s) cs (running cs)
    each_run fits cs proper ended = by_run (running cs) refl ended
      where
        by_run : (q : r.Run) → running cs ≡ q → HasEnded q → IsBacked bd layout IsLeft (forget layout s) cs q
        by_run (Done G rest) e ended =
            let w = was_taken fits cs G rest proper e in
            let m = memo fits proper w in
            let left : IsLeft (with_memo s (forgotten s m)) G = subst (λ m. IsLeft (with_memo s m) G) (sym (same_memo fits proper w)) (record { kept = w.kept; maps = w.maps }) in
            backed (choice.Filled m ∷ []) rest (All-cons (IsGiven bd layout) (choice.Filled m) [] (memo_given fits proper w) (All-nil (IsGiven bd layout))) (taken fits proper w) (took fits proper w) (side.Matches.done left)
        by_run (Stops (Failed l) rest) e ended = absurd (elim (code_stops fits cs (Failed l) rest proper e) [ inl same ↦ cc | inr same ↦ cc ])
        by_run (Stops r.Blocked rest) e ended = elim ended [ ]
        by_run (Stops r.Short rest) e ended = elim ended [ ]
        by_run (Stops r.Over rest) e ended = elim ended [ ]
        by_run (Stops r.Wrong rest) e ended = elim ended [ ]

    -- what is left is sound, and all is coupled again
    sound_run : KeepsRun IsAny (IsGiven bd layout) (IsSound bd layout) (forget layout s)
    sound_run =
        let one = forget_fits {C = IsGiven bd layout} layout s coupled.sound.fits in
        let two = forget_proper bd layout s coupled.sound.proper in
        let three = forget_sign layout s coupled.sound.nonnegative in
        let first = both_kept {G = IsGiven bd layout} (λ d given. (given, given.proper)) one two in
        let all = both_kept {G = IsGiven bd layout} (λ d given. (given, tt)) first three in
        any_run (λ d given. given) (λ u h. record { fits = h.0.0; proper = h.0.1; nonnegative = h.1 }) all

    pub forgotten_alongside : AreAlongside (HasPlaces layout) bd layout (IsForgotten bd c n (forget_code layout p.now n).next p sc E) (forget layout s) running
    forgotten_alongside =
        law_alongside (HasPlaces layout) bd layout sound_run
        (λ u F sound left. record { kept = left.kept; coupled = free_coupled u F sound left })
        (record { on_moves = λ choices more all. on_moves coupled.sound.fits choices more all; each_run = λ cs proper ended. each_run coupled.sound.fits cs proper ended })
      where
        free_is_local : (x : ℕ) → IsFreeLocalOf layout p.now x → IsLocalOf layout p.now x
        free_is_local x h = record { spot = h.spot; kind = tt; exists = h.exists; there = h.there }

        free_coupled : (u : State) (F : Env) → IsSound bd layout u → IsLeft u F → IsCoupled bd c (forget_code layout p.now n).next p u sc F
        free_coupled u F sound left =
            let singles = singles_but layout n n p.now s E F coupled.now (but_less free_is_local left.kept) in
            coupled_changed bd c n (forget_code layout p.now n).next p p.now s u sc E F (omega (arith, counted, contents_counted p.now layout.keys 0 middle))
            (λ i named below.
            let it = coupled.vars named.variable named.ty named.visible named.typed in
            subst (λ j. slice_get F j ≡ slice_get E j) (sym named.there) (singles.same _ (scalar it.v) it.below it.here ∙ sym it.here))
            (λ i named below. left.kept.same i below (λ mine. own_apart own named mine))
            left.maps sound coupled
