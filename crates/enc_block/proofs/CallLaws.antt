-- Calls: the arguments are fixed and the state is copied, the precondition is given up, what is not held is forgotten, the targets
-- take any values, and the postcondition is produced.
use Rattle.std.specs.Bool.{⊤}
use Rattle.std.proofs.Common.{◌≡◌, ◌+◌, ◌≤◌, ◌++◌, ℕ, List, map, take, Some, None, All, inl, inr, slice_get, refl, ap, subst, ◌∙◌, arith}
use Rattle.std.proofs.lemmas.List.Elements.{All-append}
use Rattle.vb_base.specs.declared.places.Pos.{Pos}
use Rattle.vb_value.specs.Bound.{Bound}
use Rattle.vb_value.specs.Layout.{Layout}
use Rattle.vb_value.specs.Value.{IsProperValue}
use Rattle.vb_value.specs.declared.values.Value.{Value}
use Rattle.viper_core.specs.Expr as e
use Rattle.viper_core.specs.Formed.{IsFormed, precondition_context, postcondition_context}
use Rattle.viper_core.specs.Part.{cut}
use Rattle.viper_core.specs.Program.{Method}
use Rattle.viper_core.specs.Scope.{Scope}
use Rattle.viper_core.specs.Typing.{Context, MethodContext, HaveTypes, IsAssertion, Receive, params_of, returns_of}
use Rattle.viper_core.proofs.CutLaws.{preconditions_cut, postconditions_cut}
use Rattle.viper_state.specs.Fits.{FitsStore}
use Rattle.viper_state.specs.State.{State}
use Rattle.viper_state.specs.Run.{Scene}
use Rattle.viper_meaning.specs.Ends.{found}
use Rattle.viper_meaning.specs.Forgotten.{forget}
use Rattle.viper_meaning.specs.Run.{Run, goes, evaluating, then_do}
use Rattle.viper_meaning.specs.Statements.{Activation, Configuration, scene, with_state, stored, taking_values, produce_all, consume_all, called}
use Rattle.viper_meaning.specs.Value.{values}
use Rattle.viper_meaning.proofs.StatementFitsLaws.{both_fit, take_both}
use Rattle.viper_meaning.proofs.ThenLaws.{then_then}
use Rattle.boogie_tree.specs.Program.{BType}
use Rattle.boogie_meaning.specs.Run.{brun}
use Rattle.moves.specs.Scalars.{scalar}
use Rattle.enc_expr.specs.Place.{Maps, Place, number, Spot, IsSpot, local_at, IsLocalOf}
use Rattle.enc_expr.specs.Kinds.{Kinds}
use Rattle.enc_expr.specs.Code.{Emitting, then_emit, puts}
use Rattle.enc_expr.specs.Pieces.{Operand}
use Rattle.enc_expr.specs.Encoding.{codes, maps_from}
use Rattle.enc_expr.specs.Coupling.{Env, HasMaps, IsSound, IsCoupled}
use Rattle.enc_expr.specs.Alike.{KeptBut, AreLocated}
use Rattle.enc_expr.proofs.AtomLaws.{located_more, located_append}
use Rattle.enc_expr.proofs.CodeLaws.{codes_counted, then_counted}
use Rattle.enc_expr.proofs.CopyLaws.{IsCopied, maps_after}
use Rattle.enc_expr.proofs.FrameLaws.{but_less, maps_but, maps_below, not_map, singles_but, located_single}
use Rattle.enc_expr.proofs.InsideLaws.{values_fit, located_variable}
use Rattle.enc_expr.proofs.Simulated.{IsCounted}
use Rattle.enc_assert.specs.Encoding.{forget_code}
use Rattle.enc_assert.specs.Held.{IsRead, IsGrowing, IsShrinking}
use Rattle.enc_assert.proofs.AlongsideLaws.{same_alongside, weaken_alongside}
use Rattle.enc_assert.proofs.ForgetSimulation.{forget_counted, forgotten_alongside}
use Rattle.enc_assert.proofs.GoingLaws.{emit_both, along}
use Rattle.enc_assert.proofs.ProduceLaws.{held_is_local}
use Rattle.enc_fold.specs.Saved.{copying}
use Rattle.enc_fold.proofs.SavedLaws.{copying_is, copying_counted, copying_sets}
use Rattle.enc_block.specs.Encoding.{produce_all_code, consume_all_code, havoc_code, fixed, called_code, call_code}
use Rattle.enc_block.specs.Home.{Home, place, kinds_of, whole, IsHome, IsAt, HasRoom}
use Rattle.enc_block.specs.Runs.{Runs}
use Rattle.enc_block.proofs.ArgumentLaws.{fixed_counted, fixed_set, located_but}
use Rattle.enc_block.proofs.ClauseLaws.{produced_counted, consumed_counted, all_produced, all_consumed}
use Rattle.enc_block.proofs.GoingLaws.{Along, sets_along, found_along}
use Rattle.enc_block.proofs.HomeLaws.{coupled_at, variable_at, at_kept, at_maps}
use Rattle.enc_block.proofs.ReadLaws.{values_along}
use Rattle.enc_block.proofs.RoomLaws.{room_first, room_rest, ready}
use Rattle.enc_block.proofs.StateLaws.{home_forgetting, one_scale}
use Rattle.enc_block.proofs.TargetLaws.{havoc_counted, then_goes, with_stored, taken_proper, taken_fit, received_there, received_differ, taken_located, IsVariableLocal, WereTaken, targets_along}

-- what stays the same in the body of the method that runs
abbrev pub frame_of : Activation → ℕ → MethodContext
frame_of k params = record { program = k.program; vars = k.vars; params = params }

-- ---- the code of a call

module _ (layout : Layout) (h : Home) (at : Pos) (targets : List ℕ) (callee : Method) (given : List ℕ) (before : Maps) where
  abbrev pub pre_kinds : Kinds
  pre_kinds = record { vars = take callee.params callee.vars; layout = layout }

  abbrev pub pre_place : Place
  pre_place = record { vars = given; now = before; old = h.old; at = at }

  abbrev pub post_kinds : Kinds
  post_kinds = record { vars = take (callee.params + callee.returns) callee.vars; layout = layout }

  abbrev pub post_place : Place
  post_place = record { vars = given ++ map (number h.vars) targets; now = h.now; old = before; at = at }

  abbrev pub required : Emitting ⊤
  required = consume_all_code pre_kinds pre_place h.now callee.preconditions

  abbrev pub forgets : Emitting ⊤
  forgets = forget_code layout h.now

  abbrev pub havocs : Emitting ⊤
  havocs = puts None (havoc_code h targets)

  abbrev pub promised : Emitting ⊤
  promised = produce_all_code post_kinds post_place callee.postconditions

  abbrev pub behind_havoc : Emitting ⊤
  behind_havoc = then_emit havocs (λ u. promised)

  abbrev pub behind_required : Emitting ⊤
  behind_required = then_emit forgets (λ u. behind_havoc)

  pub called_counted : IsCounted (called_code layout h at targets callee given before)
  called_counted =
      then_counted required (λ u. behind_required) (consumed_counted pre_kinds pre_place h.now callee.preconditions)
      (λ u. then_counted forgets (λ u. behind_havoc) (forget_counted h.now layout)
      (λ u. then_counted havocs (λ u. promised) (havoc_counted h targets) (λ u. produced_counted post_kinds post_place callee.postconditions)))

module _ (k : Activation) (h : Home) (at : Pos) (targets : List ℕ) (callee : Method) (args : e.Exprs) where
  abbrev reading : Emitting (List Operand)
  reading = codes (kinds_of k) (place h at) None args

  abbrev from_copies : List ℕ → Emitting ⊤
  from_copies given = then_emit (copying k.program.layout h.now) (λ before. called_code k.program.layout h at targets callee given before)

  abbrev from_values : List Operand → Emitting ⊤
  from_values xs = then_emit (fixed xs) from_copies

  copies_counted : (given : List ℕ) → IsCounted (from_copies given)
  copies_counted given =
      then_counted (copying k.program.layout h.now) (λ before. called_code k.program.layout h at targets callee given before) (copying_counted k.program.layout h.now)
      (λ before. called_counted k.program.layout h at targets callee given before)

  pub call_counted : IsCounted (call_code (kinds_of k) h at targets callee args)
  call_counted = then_counted reading from_values (codes_counted (kinds_of k) (place h at) None args) (λ xs. then_counted (fixed xs) from_copies (fixed_counted xs) copies_counted)

-- ---- what stays during a call

module _ (ts : List BType) (b : Bound) (k : Activation) (h : Home) (home : IsHome ts k h) (given : List ℕ) (before : Maps) (args : List Value) (s0 : State) where
  abbrev layout : Layout
  layout = k.program.layout

  -- the locals of variables are others than those of the arguments, and the maps of the present state are no copies
  pub record AreOthers : Type 0 where
    pub arguments : (i : ℕ) → IsVariableLocal k h i → All (λ j. j ≡ i → ⊥) given
    pub copies : (i : ℕ) → IsLocalOf layout before i → IsLocalOf layout h.now i → ⊥

  -- the configuration stands there, and so do the arguments, and the state before the call
  pub record Stands (n : ℕ) (d : Configuration) (E : Env) : Type 0 where
    pub at : IsAt ts b k h n d E
    pub located : AreLocated n E given args
    pub copied : HasMaps layout n before s0 E

  module _ (others : AreOthers) where
    -- maps of the present state were changed
    stands_maps : {n m : ℕ} {d : Configuration} {s : State} {E F : Env} → n ≤ m → KeptBut (IsLocalOf layout h.now) n E F → HasMaps layout m h.now s F → IsSound b layout s → Stands n d E → Stands m (with_state d s) F
    stands_maps {n} {m} {d} {s} {E} {F} within kept maps sound it = record {
      at = at_maps home within kept maps sound it.at;
      located = located_single within (singles_but layout n n h.now d.state E F it.at.now kept) it.located;
      copied = maps_but within kept others.copies it.copied;
    }

    -- the targets have taken values
    stands_targets : {n : ℕ} {d : Configuration} {xs : List ℕ} {vs : List Value} {E F : Env} → WereTaken ts b k h home n d E xs vs F → Stands n d E → Stands n (with_stored d xs vs) F
    stands_targets {n} {d} {E = E} taken it = record {
      at = taken.at;
      located = located_but taken.kept (λ i c inside mine. others.arguments _ mine i c inside refl) it.located;
      copied = maps_but (omega arith) taken.kept (λ i copy mine.
          let own = variable_at it.at mine.variable mine.ty mine.exists in
          not_map layout n before s0 E i (scalar own.v) it.copied (ap (slice_get E) mine.there ∙ own.here) copy) it.copied;
    }

    -- what is not held is forgotten
    forgot_standing : (at : Pos) (n : ℕ) (d : Configuration) (E : Env) → Stands n d E → HasRoom ts n (forget_code layout h.now n).locals →
        Along b layout (λ s F. Stands (forget_code layout h.now n).next (with_state d s) F) (forget layout d.state) (λ cs. brun ts b (forget_code layout h.now n).stmts E cs)
    forgot_standing at n d E it room =
        let counted = (forget_counted h.now layout).next n in
        weaken_alongside ⊥ b layout
        (λ s F after. stands_maps (omega (arith, counted)) (but_less (λ i free. record { spot = free.spot; kind = tt; exists = free.exists; there = free.there }) after.kept) after.coupled.now after.coupled.sound it)
        (along (forgotten_alongside ts b (whole k) (place h at) (home_forgetting ts b k h home at) d.state (scene k d at) n E (coupled_at it.at at) it.at.full room.locals))

    module _ (formed : IsFormed k.program) (at : Pos) (callee : Method) (number_of : ℕ) (exists : slice_get k.program.methods number_of ≡ Some callee) (fits : FitsStore (params_of callee) args) (proper : All (IsProperValue b) args) (sound : IsSound b layout s0) where
      -- ---- the precondition

      abbrev pre_context : Context
      pre_context = cut (precondition_context k.program callee) callee.params

      abbrev pre_scene : Scene
      pre_scene = record { store = args; old = k.old; at = at }

      pre_typed : All (IsAssertion pre_context) callee.preconditions
      pre_typed = λ i c inside. (preconditions_cut k.program formed number_of callee exists i c inside).typed

      module _ (targets : List ℕ) where
        abbrev requires : Emitting ⊤
        requires = required layout h at targets callee given before

        abbrev promises : Emitting ⊤
        promises = promised layout h at targets callee given before

        pre_shrinks : IsShrinking pre_context (pre_place layout h at targets callee given before) h.now
        pre_shrinks = record {
          apart = λ i j held there also same. home.now.apart i j tt there also same;
          beside = λ i held there other. by_side i there other;
        }
          where
            by_side : (i : Spot) → IsSpot layout i → IsRead pre_context (pre_place layout h at targets callee given before) (local_at h.now i) → ⊥
            by_side i there (inl copy) = others.copies _ copy (record { spot = i; kind = tt; exists = there; there = refl })
            by_side i there (inr old) = home.now.beside i tt there (inl old)

        pre_coupled : {n : ℕ} {d : Configuration} {E : Env} → Stands n d E → IsCoupled b pre_context n (pre_place layout h at targets callee given before) s0 pre_scene E
        pre_coupled it = record {
          now = it.copied;
          old = it.at.old;
          vars = λ x u seen there. located_variable given args (params_of callee) x u it.located fits there;
          at = refl;
          sound = sound;
          old_sound = it.at.old_sound;
          store = proper;
        }

        required_standing : (n : ℕ) (d : Configuration) (E : Env) → Stands n d E → HasRoom ts n (requires n).locals →
            Along b layout (λ s F. Stands (requires n).next (with_state d s) F) (consume_all b callee.preconditions s0 pre_scene d.state) (λ cs. brun ts b (requires n).stmts E cs)
        required_standing n d E it room =
            let counted = (consumed_counted (pre_kinds layout h at targets callee given before) (pre_place layout h at targets callee given before) h.now callee.preconditions).next n in
            weaken_alongside ⊥ b layout (λ s F after. stands_maps (omega (arith, counted)) (but_less held_is_local after.kept) after.maps after.sound it)
            (along ((all_consumed ts b pre_context formed (pre_place layout h at targets callee given before) pre_scene fits h.now pre_shrinks s0 callee.preconditions pre_typed d.state).alongside n E
            (record { coupled = pre_coupled it; maps = it.at.now; sound = it.at.sound; scales = one_scale ts b k h home n E }) (ready it.at.full room)))

        -- ---- the postcondition

        abbrev post_context : Context
        post_context = cut (postcondition_context k.program callee) (callee.params + callee.returns)

        abbrev post_scene : List Value → Scene
        post_scene vs = record { store = args ++ vs; old = s0; at = at }

        post_typed : All (IsAssertion post_context) callee.postconditions
        post_typed = λ i c inside. (postconditions_cut k.program formed number_of callee exists i c inside).typed

        post_grows : IsGrowing post_context (post_place layout h at targets callee given before)
        post_grows = record {
          apart = λ i j held there also same. home.now.apart i j tt there also same;
          beside = λ i held there copy. others.copies _ copy (record { spot = i; kind = tt; exists = there; there = refl });
        }

        post_fits : (vs : List Value) → FitsStore (returns_of callee) vs → FitsStore (take (callee.params + callee.returns) callee.vars) (args ++ vs)
        post_fits vs returned = subst (λ us. FitsStore us (args ++ vs)) (take_both callee.params callee.returns callee.vars) (both_fit (params_of callee) (returns_of callee) args vs fits returned)

        module _ (vs : List Value) (returned : FitsStore (returns_of callee) vs) (taken : All (IsProperValue b) vs) where
          post_coupled : {n : ℕ} {d : Configuration} {E : Env} → AreLocated n E (map (number h.vars) targets) vs → Stands n d E → IsCoupled b post_context n (post_place layout h at targets callee given before) d.state (post_scene vs) E
          post_coupled results it = record {
            now = it.at.now;
            old = it.copied;
            vars = λ x u seen there. located_variable (given ++ map (number h.vars) targets) (args ++ vs) (take (callee.params + callee.returns) callee.vars) x u (located_append it.located results) (post_fits vs returned) there;
            at = refl;
            sound = it.at.sound;
            old_sound = sound;
            store = All-append (IsProperValue b) args vs proper taken;
          }

          promised_standing : (n : ℕ) (d : Configuration) (E : Env) → AreLocated n E (map (number h.vars) targets) vs → Stands n d E → HasRoom ts n (promises n).locals →
              Along b layout (λ s F. IsAt ts b k h (promises n).next (with_state d s) F) (produce_all b callee.postconditions (post_scene vs) d.state) (λ cs. brun ts b (promises n).stmts E cs)
          promised_standing n d E results it room =
              let counted = (produced_counted (post_kinds layout h at targets callee given before) (post_place layout h at targets callee given before) callee.postconditions).next n in
              weaken_alongside ⊥ b layout (λ s F after. at_maps home (omega (arith, counted)) (but_less held_is_local after.kept) after.coupled.now after.coupled.sound it.at)
              (along ((all_produced ts b post_context formed (post_place layout h at targets callee given before) (post_scene vs) (post_fits vs returned) post_grows callee.postconditions post_typed d.state).alongside n E
              (record { coupled = post_coupled results it; scales = one_scale ts b k h home n E }) (ready it.at.full room)))

        -- ---- all of it

        module _ (scope : Scope) (params : ℕ) (receive : Receive (frame_of k params) scope targets (returns_of callee)) where
          -- the run behind the state that is left
          abbrev goes_on : Configuration → State → Run Configuration
          goes_on d s =
              then_do (taking_values k.vars targets) (λ vs.
              then_do (produce_all b callee.postconditions (post_scene vs) s) (λ t.
              goes (record { store = stored d.store targets vs; state = t })))

          abbrev last : Emitting ⊤
          last = behind_havoc layout h at targets callee given before

          ends_along : (n : ℕ) (d : Configuration) (E : Env) → Stands n d E → HasRoom ts n (last n).locals → Along b layout (IsAt ts b k h (last n).next) (goes_on d d.state) (λ cs. brun ts b (last n).stmts E cs)
          ends_along n d E it room =
              emit_both ⊥ ts b layout (havocs layout h at targets callee given before) (λ u. promises) n E (taking_values k.vars targets)
              (λ vs. then_do (produce_all b callee.postconditions (post_scene vs) d.state) (λ t. goes (record { store = stored d.store targets vs; state = t })))
              (targets_along ts b k h home targets (received_there k refl receive) n d E it.at) (λ vs F were.
              let z = with_stored d targets vs in
              then_goes (produce_all b callee.postconditions (post_scene vs) d.state) (λ t. record { store = stored d.store targets vs; state = t }) (λ t G q. q)
              (promised_standing vs (taken_fit receive were.taken) (taken_proper were.taken) n z F (taken_located d (received_differ receive) it.at.fits were.taken were.at) (stands_targets were it) room))

          pub called_along : (n : ℕ) (store : List Value) (E : Env) → (let d : Configuration = record { store = store; state = s0 } in Stands n d E → (let m = called_code layout h at targets callee given before in HasRoom ts n (m n).locals →
              Along b layout (IsAt ts b k h (m n).next) (called b k targets callee args at d) (λ cs. brun ts b (m n).stmts E cs)))
          called_along n store E it room =
              let d : Configuration = record { store = store; state = s0 } in
              let j = (requires n).next in let us = (requires n).locals in let ws = (behind_required layout h at targets callee given before j).locals in
              let first = forgets layout h at targets callee given before in
              let left = room_rest us ws ((consumed_counted (pre_kinds layout h at targets callee given before) (pre_place layout h at targets callee given before) h.now callee.preconditions).next n) room in
              same_alongside ⊥ b layout (then_then (consume_all b callee.preconditions s0 pre_scene s0) (forget layout) (goes_on d))
              (emit_both ⊥ ts b layout requires (λ u. behind_required layout h at targets callee given before) n E (consume_all b callee.preconditions s0 pre_scene s0) (λ s. then_do (forget layout s) (goes_on d))
              (required_standing n d E it (room_first us ws room))
              (λ s F after.
              emit_both ⊥ ts b layout first (λ u. last) j F (forget layout s) (goes_on d)
              (forgot_standing at j (with_state d s) F after (room_first (first j).locals (last (first j).next).locals left))
              (λ t G later. ends_along (first j).next (with_state d t) G later (room_rest (first j).locals (last (first j).next).locals ((forget_counted h.now layout).next j) left))))

-- ---- calls

module _ (ts : List BType) (b : Bound) (k : Activation) (h : Home) (home : IsHome ts k h) (formed : IsFormed k.program) (at : Pos) (targets : List ℕ) (callee : Method) (number_of : ℕ) (exists : slice_get k.program.methods number_of ≡ Some callee)
    (scope : Scope) (params : ℕ) (receive : Receive (frame_of k params) scope targets (returns_of callee)) (args : e.Exprs) (typed : HaveTypes (whole k) args (params_of callee)) where
  pub call_runs : Runs ts b k h (call_code (kinds_of k) h at targets callee args)
      (λ d. evaluating (values b args d.state (scene k d at)) (λ vs. evaluating (found (slice_get k.program.methods number_of)) (λ callee. called b k targets callee vs at d)))
  call_runs = record {
    goes = λ n d E it room.
        values_along ts b k h formed n d E it at args (from_values k h at targets callee args) room (params_of callee) typed
        (λ vs. evaluating (found (slice_get k.program.methods number_of)) (λ callee. called b k targets callee vs at d)) (λ vs F read left.
        let layout = k.program.layout in
        let x = reading k h at targets callee args n in let m = x.next in
        let go = from_copies k h at targets callee args in
        let first = fixed x.value in let given = (first m).value in
        let fixes = fixed_set ts b m F x.value (params_of callee) vs read.at.full read.valued.values (room_first (first m).locals (go given (first m).next).locals left).locals in
        let G = fixes.after in let j = (first m).next in
        let counted = (fixed_counted x.value).next m in
        let left2 = room_rest (first m).locals (go given j).locals counted left in
        let second = copying layout h.now in let before = maps_from layout j in
        let here : IsAt ts b k h j d G = at_kept (omega (arith, counted)) fixes.sets.kept read.at in
        let copied : IsCopied ts b layout h.now d.state j G =
        copying_sets ts b layout h.now d.state j G here.now here.full left2.low (room_first (second j).locals (called_code layout h at targets callee given before (second j).next).locals left2).locals in
        let H = copied.after in let i = (second j).next in
        let counted2 = (copying_counted layout h.now).next j in
        let others : AreOthers ts b k h home given before vs d.state = record {
          arguments = λ y own c d2 inside same. omega (arith, fixes.behind c d2 inside, same, own.there, (variable_at read.at own.variable own.ty own.exists).below);
          copies = λ y copy mine. omega (arith, copy.there, maps_after layout j copy.spot copy.exists, mine.there, maps_below layout j h.now d.state G here.now mine.spot mine.exists);
        } in
        let stands : Stands ts b k h home given before vs d.state i d H = record {
          at = at_kept (omega (arith, counted2)) copied.sets.kept here;
          located = located_more (omega (arith, counted2)) copied.sets.kept.same fixes.located;
          copied = copied.maps;
        } in
        found_along (slice_get k.program.methods number_of) callee (λ callee. called b k targets callee vs at d) exists
        (sets_along ts b layout first go m F G (record { done = fixes.sets.done })
        (sets_along ts b layout second (λ before. called_code layout h at targets callee given before) j G H (record { done = λ cs. ap (λ xs. brun ts b xs G cs) (copying_is layout h.now j) ∙ copied.sets.done cs })
        (called_along ts b k h home given before vs d.state others formed at callee number_of exists (values_fit read.valued.values read.proper) read.proper here.sound targets scope params receive i d.store H stands
        (room_rest (second j).locals (called_code layout h at targets callee given before i).locals counted2 left2)))));
  }
