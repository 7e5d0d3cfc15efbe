-- Clauses that are produced in the present state, given up, or asserted.
use Rattle.std.specs.Bool.{⊤}
use Rattle.std.proofs.Common.{◌≡◌, ◌≤◌, ◌<◌, ◌+◌, ℕ, List, [], ◌∷◌, length, refl, ap, ◌∙◌, None, All, inl, arith}
use Rattle.vb_base.specs.declared.places.Pos.{Pos}
use Rattle.vb_value.specs.Bound.{Bound}
use Rattle.vb_value.specs.Fraction.{write}
use Rattle.vb_value.specs.Layout.{Layout}
use Rattle.viper_core.specs.Expr as e
use Rattle.viper_core.specs.Formed.{IsFormed}
use Rattle.viper_core.specs.Typing.{IsAssertion}
use Rattle.viper_state.specs.State.{State}
use Rattle.viper_meaning.specs.Assertions.{produce}
use Rattle.viper_meaning.specs.Ends.{is}
use Rattle.viper_meaning.specs.Forgotten.{forget}
use Rattle.viper_meaning.specs.Statements.{Activation, Configuration, scene, with_state, produce_all, consume_all, exhale_all}
use Rattle.viper_meaning.proofs.StatementKeptLaws.{proper_write}
use Rattle.boogie_tree.specs.Program.{BType}
use Rattle.boogie_tree.specs.Value.{BChoice}
use Rattle.boogie_meaning.specs.Run.{brun, Done}
use Rattle.enc_expr.specs.Place.{Maps, with_now}
use Rattle.enc_expr.specs.Code.{Emitting, then_emit}
use Rattle.enc_expr.specs.Pieces.{one_real}
use Rattle.enc_expr.specs.Coupling.{Env, IsOwn}
use Rattle.enc_expr.specs.Alike.{IsScale, real}
use Rattle.enc_expr.proofs.AlikeLaws.{is_alike}
use Rattle.enc_expr.proofs.CodeLaws.{gives_counted, then_counted}
use Rattle.enc_expr.proofs.FrameLaws.{but_less, but_none, kept_then, maps_below, coupled_kept, maps_kept, own_apart}
use Rattle.enc_expr.proofs.Simulated.{IsCounted}
use Rattle.enc_assert.specs.Encoding.{produce_code, forget_code}
use Rattle.enc_assert.specs.Held.{IsGrowing, IsForgetting, IsProduced}
use Rattle.enc_assert.proofs.AlongsideLaws.{ended_alongside, weaken_alongside}
use Rattle.enc_assert.proofs.ForgetSimulation.{forget_counted, forgotten_alongside}
use Rattle.enc_assert.proofs.GoingLaws.{emit_both, along}
use Rattle.enc_assert.proofs.ProduceLaws.{held_is_local}
use Rattle.enc_assert.proofs.ProduceSimulation.{IsProducing, assertion_produced}
use Rattle.enc_assert.proofs.WrittenLaws.{produce_counted}
use Rattle.enc_fold.specs.Saved.{held_types, held_from, saving}
use Rattle.enc_fold.proofs.SavedLaws.{IsSaved, straight_first, saving_sets, saving_is, saving_counted, saved_coupled, copy_shrinks, start_shrinks, held_apart}
use Rattle.enc_block.specs.Encoding.{produce_all_code, consume_all_code, exhale_code, assert_code}
use Rattle.enc_block.specs.Home.{Home, place, kinds_of, whole, IsHome, IsAt, HasRoom}
use Rattle.enc_block.proofs.ClauseLaws.{produced_counted, consumed_counted, all_produced, all_consumed}
use Rattle.enc_block.proofs.GoingLaws.{Along}
use Rattle.enc_block.proofs.HomeLaws.{coupled_at, at_kept, at_maps}
use Rattle.enc_block.proofs.RoomLaws.{room_first, room_rest, ready}

-- ---- locals are counted

pub exhale_counted : (k : Activation) (h : Home) (at : Pos) (xs : List e.Assertion) → IsCounted (exhale_code (kinds_of k) h at xs)
exhale_counted k h at [] = forget_counted h.now k.program.layout
exhale_counted k h at (a ∷ rest) =
    let layout = k.program.layout in let last : Emitting ⊤ = forget_code layout h.now in
    let taken : Maps → Emitting ⊤ = λ start. consume_all_code (kinds_of k) (with_now start (place h at)) h.now (a ∷ rest) in
    then_counted (saving layout h.now) (λ start. then_emit (taken start) (λ u. last)) (saving_counted layout h.now) (λ start.
    then_counted (taken start) (λ u. last) (consumed_counted (kinds_of k) (with_now start (place h at)) h.now (a ∷ rest)) (λ u. forget_counted h.now layout))

pub assert_counted : (k : Activation) (h : Home) (at : Pos) (xs : List e.Assertion) → IsCounted (assert_code (kinds_of k) h at xs)
assert_counted k h at [] = gives_counted tt
assert_counted k h at (a ∷ rest) =
    then_counted (saving k.program.layout h.now) (λ left. consume_all_code (kinds_of k) (place h at) left (a ∷ rest)) (saving_counted k.program.layout h.now) (λ left. consumed_counted (kinds_of k) (place h at) left (a ∷ rest))

-- ---- runs

module _ (ts : List BType) (b : Bound) (k : Activation) (h : Home) (home : IsHome ts k h) where
  -- the maps of the present state may be changed
  pub home_own : (at : Pos) → IsOwn (whole k) (place h at)
  home_own at = record { apart = λ i j any there also e. home.now.apart i j any there also e; beside = λ i any there other. home.now.beside i any there (inl other) }

  pub home_growing : (at : Pos) → IsGrowing (whole k) (place h at)
  home_growing at = record { apart = λ i j held there also e. home.now.apart i j tt there also e; beside = λ i held there other. home.now.beside i tt there (inl other) }

  pub home_forgetting : (at : Pos) → IsForgetting (whole k) (place h at)
  home_forgetting at = record { apart = λ i j free there also e. home.now.apart i j tt there also e; beside = λ i free there other. home.now.beside i tt there (inl other) }

  -- the scale 1
  pub one_scale : (n : ℕ) (E : Env) → IsScale b n E one_real write
  one_scale n E = record { atom = real; positive = refl; proper = proper_write b }

  -- permission came to the state
  pub at_produced : {n m : ℕ} {d : Configuration} {s : State} {E F : Env} (at : Pos) → n ≤ m → IsAt ts b k h n d E → IsProduced b (whole k) n m (place h at) (scene k d at) E s F → IsAt ts b k h m (with_state d s) F
  at_produced at within it after = at_maps home within (but_less held_is_local after.kept) after.coupled.now after.coupled.sound it

  -- what is not held is forgotten
  pub forgot_along : (at : Pos) (n : ℕ) (d : Configuration) (E : Env) → IsAt ts b k h n d E → HasRoom ts n (forget_code k.program.layout h.now n).locals →
      Along b k.program.layout (λ s F. IsAt ts b k h (forget_code k.program.layout h.now n).next (with_state d s) F) (forget k.program.layout d.state) (λ cs. brun ts b (forget_code k.program.layout h.now n).stmts E cs)
  forgot_along at n d E it room =
      let counted = (forget_counted h.now k.program.layout).next n in
      weaken_alongside ⊥ b k.program.layout
      (λ s F after. at_maps home (omega (arith, counted)) (but_less (λ i free. record { spot = free.spot; kind = tt; exists = free.exists; there = free.there }) after.kept) after.coupled.now after.coupled.sound it)
      (along (forgotten_alongside ts b (whole k) (place h at) (home_forgetting at) d.state (scene k d at) n E (coupled_at it at) it.full room.locals))

  module _ (formed : IsFormed k.program) (at : Pos) (n : ℕ) (d : Configuration) (E : Env) (it : IsAt ts b k h n d E) where
    starts_producing : IsProducing b (whole k) (place h at) (scene k d at) one_real write n d.state E
    starts_producing = record { coupled = coupled_at it at; scales = one_scale n E }

    pub produced_along : (a : e.Assertion) → IsAssertion (whole k) a → (let m = produce_code (kinds_of k) (place h at) None one_real a in HasRoom ts n (m n).locals →
        Along b k.program.layout (λ s F. IsAt ts b k h (m n).next (with_state d s) F) (produce b a (scene k d at) write d.state) (λ cs. brun ts b (m n).stmts E cs))
    produced_along a typed room =
        let counted = (produce_counted (kinds_of k) (place h at) None one_real a).next n in
        weaken_alongside ⊥ b k.program.layout (λ s F after. at_produced at (omega (arith, counted)) it after)
        (along ((assertion_produced ts b (whole k) formed (place h at) (home_growing at) (scene k d at) it.fits one_real write None d.state a typed).alongside n E starts_producing (ready it.full room)))

    pub all_produced_along : (xs : List e.Assertion) → All (IsAssertion (whole k)) xs → (let m = produce_all_code (kinds_of k) (place h at) xs in HasRoom ts n (m n).locals →
        Along b k.program.layout (λ s F. IsAt ts b k h (m n).next (with_state d s) F) (produce_all b xs (scene k d at) d.state) (λ cs. brun ts b (m n).stmts E cs))
    all_produced_along xs typed room =
        let counted = (produced_counted (kinds_of k) (place h at) xs).next n in
        weaken_alongside ⊥ b k.program.layout (λ s F after. at_produced at (omega (arith, counted)) it after)
        (along ((all_produced ts b (whole k) formed (place h at) (scene k d at) it.fits (home_growing at) xs typed d.state).alongside n E starts_producing (ready it.full room)))

    -- ---- what is given up, and what is asserted

    abbrev layout : Layout
    layout = k.program.layout

    abbrev behind : ℕ
    behind = n + length (held_types layout)

    abbrev copy : Maps
    copy = held_from layout h.now n

    saves : HasRoom ts n (saving layout h.now n).locals → IsSaved ts b layout h.now d.state n E
    saves room = saving_sets ts b layout h.now d.state n E it.now it.full room.low room.locals

    saved_run : (saved : IsSaved ts b layout h.now d.state n E) (cs : List BChoice) → brun ts b (saving layout h.now n).stmts E cs ≡ Done saved.after cs
    saved_run saved cs = ap (λ ys. brun ts b ys E cs) (saving_is layout h.now n) ∙ saved.sets.done cs

    -- The clauses are consumed from copies, and the configuration stays.
    pub asserted_along : (xs : List e.Assertion) → All (IsAssertion (whole k)) xs → (let m = assert_code (kinds_of k) h at xs in HasRoom ts n (m n).locals →
        Along b layout (λ s F. IsAt ts b k h (m n).next d F) (consume_all b xs d.state (scene k d at) d.state) (λ cs. brun ts b (m n).stmts E cs))
    asserted_along [] typed room = ended_alongside ⊥ b layout (is d.state) (λ cs. is_alike it)
    asserted_along (a ∷ rest) typed room =
        let first = saving layout h.now in let go : Maps → Emitting ⊤ = λ left. consume_all_code (kinds_of k) (place h at) left (a ∷ rest) in
        let us = (first n).locals in let ws = (go copy behind).locals in
        let saved = saves (room_first us ws room) in let left = room_rest us ws ((saving_counted layout h.now).next n) room in
        let F = saved.after in let coupled = coupled_at it at in
        let counted = (consumed_counted (kinds_of k) (place h at) copy (a ∷ rest)).next behind in
        let apart = held_apart {O = λ i. i < n} layout h.now n n (λ i exists. maps_below layout n h.now d.state E it.now i exists) (λ i below. below) (omega arith) in
        straight_first ⊥ ts b layout first go n E F (saved_run saved)
        (weaken_alongside ⊥ b layout (λ s G after. at_kept (omega (arith, counted)) (kept_then {F = F} (omega arith) saved.sets.kept (but_none (omega arith) (λ i below mine. own_apart apart below mine) after.kept)) it)
        (along ((all_consumed ts b (whole k) formed (place h at) (scene k d at) it.fits copy (copy_shrinks b (whole k) (place h at) n n coupled (omega arith)) d.state (a ∷ rest) typed d.state).alongside behind F
        (record { coupled = coupled_kept b (whole k) n behind (place h at) d.state (scene k d at) E F (omega arith) saved.sets.kept coupled; maps = saved.maps; sound = it.sound; scales = one_scale behind F })
        (ready (saved.sets.kept.length ∙ it.full) left))))

    -- They are read in copies of the state, consumed from the present one, and what is then not held is forgotten.
    pub exhaled_along : (xs : List e.Assertion) → All (IsAssertion (whole k)) xs → (let m = exhale_code (kinds_of k) h at xs in HasRoom ts n (m n).locals →
        Along b layout (λ s F. IsAt ts b k h (m n).next (with_state d s) F) (exhale_all b k.program xs d.state (scene k d at)) (λ cs. brun ts b (m n).stmts E cs))
    exhaled_along [] typed room = forgot_along at n d E it room
    exhaled_along (a ∷ rest) typed room =
        let first = saving layout h.now in let last : Emitting ⊤ = forget_code layout h.now in
        let taken : Maps → Emitting ⊤ = λ start. consume_all_code (kinds_of k) (with_now start (place h at)) h.now (a ∷ rest) in
        let go : Maps → Emitting ⊤ = λ start. then_emit (taken start) (λ u. last) in
        let us = (first n).locals in let ws = (go copy behind).locals in
        let saved = saves (room_first us ws room) in let left = room_rest us ws ((saving_counted layout h.now).next n) room in
        let F = saved.after in let coupled = coupled_at it at in let middle = (taken copy behind).next in
        let vs = (taken copy behind).locals in let ys = (last middle).locals in
        let counted = (consumed_counted (kinds_of k) (with_now copy (place h at)) h.now (a ∷ rest)).next behind in
        straight_first ⊥ ts b layout first go n E F (saved_run saved)
        (emit_both ⊥ ts b layout (taken copy) (λ u. last) behind F (consume_all b (a ∷ rest) d.state (scene k d at) d.state) (forget layout)
        (along ((all_consumed ts b (whole k) formed (with_now copy (place h at)) (scene k d at) it.fits h.now (start_shrinks b (whole k) (place h at) n n coupled (omega arith) (home_own at)) d.state (a ∷ rest) typed d.state).alongside behind F
        (record { coupled = saved_coupled ts b (whole k) n (place h at) d.state (scene k d at) E coupled saved; maps = maps_kept (omega arith) saved.sets.kept it.now; sound = it.sound; scales = one_scale behind F })
        (ready (saved.sets.kept.length ∙ it.full) (room_first vs ys left))))
        (λ s G after. forgot_along at middle (with_state d s) G
        (at_maps home (omega (arith, counted)) (but_less held_is_local after.kept) after.maps after.sound (at_kept (omega arith) saved.sets.kept it)) (room_rest vs ys counted left)))
