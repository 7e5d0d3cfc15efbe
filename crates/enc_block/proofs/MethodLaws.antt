-- A method from its precondition on: the state that the precondition makes becomes the old one, and then the body runs and gives up
-- the postcondition, or the postcondition is checked by itself.
use Rattle.std.specs.Bool.{⊤}
use Rattle.std.specs.Prelude.{Bool as Truth, true, false, if◌then◌else◌}
use Rattle.std.proofs.Common.{◌≡◌, ◌≤◌, ℕ, List, [], length, refl, sym, ◌∙◌, Some, None, Option, All, inl, arith}
use Rattle.std.proofs.lemmas.Option.{slice_get_within}
use Rattle.vb_value.specs.Bound.{Bound}
use Rattle.vb_value.specs.Layout.{Layout}
use Rattle.viper_core.specs.Expr as e
use Rattle.viper_core.specs.Formed.{IsFormed, below}
use Rattle.viper_core.specs.Part.{among}
use Rattle.viper_core.specs.Program.{Method, Body}
use Rattle.viper_core.specs.Typing.{Context, Elsewhere, IsAssertion}
use Rattle.viper_core.proofs.UnitLaws.{lt-below}
use Rattle.viper_core.proofs.WiderLaws.{assertion_among}
use Rattle.viper_state.specs.State.{State}
use Rattle.viper_meaning.specs.Ends.{blocks}
use Rattle.viper_meaning.specs.Run.{Run, ended, then_do}
use Rattle.viper_meaning.specs.Statements.{Activation, Configuration, scene, with_state, in_vain, produce_all, consume_all, run_block}
use Rattle.viper_meaning.specs.Units.{check_postcondition, run_body, run_method}
use Rattle.boogie_tree.specs.Program.{BType}
use Rattle.boogie_tree.specs.Stmt as stmt
use Rattle.boogie_tree.specs.Value.{BChoice}
use Rattle.boogie_meaning.specs.Run.{Done, brun}
use Rattle.moves.specs.Scalars.{scalar}
use Rattle.enc_expr.specs.Place.{number, IsAnySpot, IsLocalOf, AreApart}
use Rattle.enc_expr.specs.Code.{Emitting, then_emit, puts}
use Rattle.enc_expr.specs.Coupling.{Env}
use Rattle.enc_expr.proofs.CodeLaws.{then_counted, puts_counted}
use Rattle.enc_expr.proofs.CopyLaws.{IsMoved, state_moved}
use Rattle.enc_expr.proofs.FrameLaws.{kept_itself, maps_but, maps_below, held_but, not_map, own_apart}
use Rattle.enc_expr.proofs.Simulated.{IsCounted}
use Rattle.enc_assert.proofs.AlongsideLaws.{weaken_alongside}
use Rattle.enc_assert.proofs.GoingLaws.{emit_both}
use Rattle.enc_block.specs.Encoding.{produce_all_code, assert_code, branching, stop, any_state_code, block_code, keep_old, check_code, ending_code, either_code, method_code}
use Rattle.enc_block.specs.Home.{Home, place, kinds_of, whole, IsHome, IsAt, HasRoom}
use Rattle.enc_block.specs.Runs.{Runs}
use Rattle.enc_block.proofs.AnyStateLaws.{any_state_counted, any_along}
use Rattle.enc_block.proofs.ClauseLaws.{produced_counted}
use Rattle.enc_block.proofs.GoingLaws.{Along, sets_along}
use Rattle.enc_block.proofs.HomeLaws.{at_kept}
use Rattle.enc_block.proofs.KindLaws.{either_along}
use Rattle.enc_block.proofs.LoopLaws.{branching_counted, stop_counted, stop_along}
use Rattle.enc_block.proofs.RoomLaws.{room_first, room_rest}
use Rattle.enc_block.proofs.StateLaws.{assert_counted, all_produced_along, asserted_along}

-- ---- clauses where all variables are visible

abbrev pub everywhere : Context → Context
everywhere c = among c c.vars (below (length c.vars)) Elsewhere

pub assertion_everywhere : (c : Context) (a : e.Assertion) → IsAssertion c a → IsAssertion (everywhere c) a
assertion_everywhere c a typed = assertion_among (record { sees = λ x u seen there. (lt-below (length c.vars) x (slice_get_within c.vars x u there), there); old = λ h. refl; outside = λ h. refl }) typed

pub clauses_everywhere : (c : Context) (xs : List e.Assertion) → All (IsAssertion c) xs → All (IsAssertion (everywhere c)) xs
clauses_everywhere c xs all = λ i d within. assertion_everywhere c _ (all i d within)

-- ---- the present state becomes the old one

abbrev pub with_old : Activation → State → Activation
with_old k s = record k { old = s }

-- a home does not speak of the old state
pub home_again : {ts : List BType} {k : Activation} {h : Home} (s : State) → IsHome ts k h → IsHome ts (with_old k s) h
home_again s home = record { as_many = home.as_many; types = home.types; vars = home.vars; sizes = home.sizes; old_sizes = home.old_sizes; now = home.now; old = home.old }

module _ (ts : List BType) (b : Bound) (k : Activation) (h : Home) (home : IsHome ts k h) where
  abbrev layout : Layout
  layout = k.program.layout

  old_apart : AreApart IsAnySpot (IsLocalOf layout h.now) layout h.old
  old_apart = record {
    apart = λ i j any there also e. home.old.apart i j any there also e;
    beside = λ i any there mine. home.now.beside mine.spot tt mine.exists (inl (record { spot = i; kind = tt; exists = there; there = sym mine.there }));
  }

  pub record IsKept (n : ℕ) (d : Configuration) (E : Env) : Type 0 where
    pub after : Env
    pub done : (cs : List BChoice) → brun ts b (keep_old h) E cs ≡ Done after cs
    pub at : IsAt ts b (with_old k d.state) h n d after

  pub old_kept : (n : ℕ) (d : Configuration) (E : Env) → n ≤ length ts → IsAt ts b k h n d E → IsKept n d E
  old_kept n d E low it =
      let moved : IsMoved ts b layout h.old h.now d.state n n home.old_sizes E =
      state_moved ts b layout h.old h.now d.state n n home.old_sizes E old_apart (λ i exists. maps_below layout n h.old k.old E it.old i exists) (omega (arith, low, it.full)) it.now in
      let kept = moved.kept n in
      record {
        after = moved.after;
        done = moved.done;
        at = record {
          now = maps_but (omega arith) kept (λ i mine old. own_apart old_apart mine old) it.now;
          old = moved.maps;
          vars = λ x u seen there.
              let own = it.vars x u seen there in
              record { v = own.v; there = own.there; typed = own.typed; below = own.below; here = kept.same (number h.vars x) own.below (not_map layout n h.old k.old E (number h.vars x) (scalar own.v) it.old own.here) ∙ own.here };
          nothing = held_but (omega arith) kept (λ i mine old. own_apart home.old mine old) it.nothing;
          sound = it.sound;
          old_sound = it.sound;
          store = it.store;
          fits = it.fits;
          full = kept.length ∙ it.full;
        };
      }

-- ---- methods

module _ (ts : List BType) (b : Bound) (k : Activation) (h : Home) (formed : IsFormed k.program) (home : IsHome ts k h) (m : Method) (post : All (IsAssertion (whole k)) m.postconditions) where
  -- ---- the postcondition by itself

  abbrev promised : Emitting ⊤
  promised = produce_all_code (kinds_of k) (place h m.name_at) m.postconditions

  abbrev promise : Emitting ⊤
  promise = then_emit promised (λ u. stop)

  pub check_counted : IsCounted (check_code (kinds_of k) h m)
  check_counted =
      then_counted (any_state_code k.program.layout h) (λ u. promise) (any_state_counted k.program.layout h) (λ u. then_counted promised (λ u. stop) (produced_counted (kinds_of k) (place h m.name_at) m.postconditions) (λ u. stop_counted))

  pub checked_along : {R : State → Env → Type 0} (n : ℕ) (d : Configuration) (E : Env) → IsAt ts b k h n d E → HasRoom ts n (check_code (kinds_of k) h m n).locals →
      Along b k.program.layout R (check_postcondition b k m d.store) (λ cs. brun ts b (check_code (kinds_of k) h m n).stmts E cs)
  checked_along n d E it room =
      let first = any_state_code k.program.layout h in let j = (first n).next in
      let us = (first n).locals in let ws = (promise j).locals in
      let produced : State → Run State = λ any. produce_all b m.postconditions (scene k d m.name_at) any in
      any_along ts b k h home m.name_at n d E it promise (λ any. in_vain (produced any)) room (λ s F after.
      emit_both ⊥ ts b k.program.layout promised (λ u. stop) j F (produced s) (λ x. ended blocks)
      (all_produced_along ts b k h home formed m.name_at j (with_state d s) F after m.postconditions post (room_first (promised j).locals [] (room_rest us ws ((any_state_counted k.program.layout h).next n) room)))
      (λ z G last. stop_along ts b k.program.layout (promised j).next G))

  -- ---- the body

  module _ (body : Body) (counted : IsCounted (block_code k.program (kinds_of k) h body.stmts)) (runs : Runs ts b k h (block_code k.program (kinds_of k) h body.stmts) (run_block b k body.stmts)) where
    abbrev block : Emitting ⊤
    block = block_code k.program (kinds_of k) h body.stmts

    abbrev ending : Emitting ⊤
    ending = ending_code k.program (kinds_of k) h m body

    abbrev given_up : Emitting ⊤
    given_up = assert_code (kinds_of k) h body.turn m.postconditions

    pub ending_counted : IsCounted ending
    ending_counted = then_counted block (λ u. given_up) counted (λ u. assert_counted k h body.turn m.postconditions)

    pub ending_along : (n : ℕ) (d : Configuration) (E : Env) → IsAt ts b k h n d E → HasRoom ts n (ending n).locals → Along b k.program.layout (λ s F. ⊤) (run_body b k m body d) (λ cs. brun ts b (ending n).stmts E cs)
    ending_along n d E it room =
        let j = (block n).next in let us = (block n).locals in let ws = (given_up j).locals in
        emit_both ⊥ ts b k.program.layout block (λ u. given_up) n E (run_block b k body.stmts d) (λ z. consume_all b m.postconditions z.state (scene k z body.turn) z.state)
        (runs.goes n d E it (room_first us ws room))
        (λ z F after. weaken_alongside ⊥ b k.program.layout (λ s G last. tt) (asserted_along ts b k h home formed body.turn j z F after m.postconditions post (room_rest us ws (counted.next n) room)))

    abbrev checking : Emitting ⊤
    checking = check_code (kinds_of k) h m

    way_along : (n : ℕ) (d : Configuration) (E : Env) (q : Truth) → IsAt ts b k h n d E → HasRoom ts n (branching stmt.Either ending checking n).locals →
        Along b k.program.layout (λ s F. ⊤) (if q then run_body b k m body d else check_postcondition b k m d.store) (λ cs. if q then brun ts b (ending n).stmts E cs else brun ts b (checking (ending n).next).stmts E cs)
    way_along n d E true it room = ending_along n d E it (room_first (ending n).locals (checking (ending n).next).locals room)
    way_along n d E false it room =
        checked_along (ending n).next d E (at_kept (omega (arith, ending_counted.next n)) (kept_itself n E) it) (room_rest (ending n).locals (checking (ending n).next).locals (ending_counted.next n) room)

  -- the body of the method goes alongside its run
  pub record RunsBody (body : Body) : Type 0 where
    pub counted : IsCounted (block_code k.program (kinds_of k) h body.stmts)
    pub runs : Runs ts b k h (block_code k.program (kinds_of k) h body.stmts) (run_block b k body.stmts)

  pub either_counted : (o : Option Body) → ((body : Body) → o ≡ Some body → RunsBody body) → IsCounted (either_code k.program (kinds_of k) h m o)
  either_counted None bodies = check_counted
  either_counted (Some body) bodies = let own = bodies body refl in branching_counted stmt.Either (ending_code k.program (kinds_of k) h m body) (check_code (kinds_of k) h m) (ending_counted body own.counted own.runs) check_counted

  -- from where the old state is the present one
  pub either_goes : (o : Option Body) → ((body : Body) → o ≡ Some body → RunsBody body) → (n : ℕ) (d : Configuration) (E : Env) → IsAt ts b k h n d E → HasRoom ts n (either_code k.program (kinds_of k) h m o n).locals →
      Along b k.program.layout (λ s F. ⊤) (run_method b k m o d) (λ cs. brun ts b (either_code k.program (kinds_of k) h m o n).stmts E cs)
  either_goes None bodies n d E it room = checked_along n d E it room
  either_goes (Some body) bodies n d E it room =
      let own = bodies body refl in
      let ending = ending_code k.program (kinds_of k) h m body in let checking = check_code (kinds_of k) h m in
      either_along ts b k.program.layout E (ending n).stmts (checking (ending n).next).stmts (λ runs. if runs then run_body b k m body d else check_postcondition b k m d.store)
      (λ q. way_along body own.counted own.runs n d E q it room)

module _ (ts : List BType) (b : Bound) (k : Activation) (h : Home) (formed : IsFormed k.program) (home : IsHome ts k h) (m : Method) (pre : All (IsAssertion (whole k)) m.preconditions) (post : All (IsAssertion (whole k)) m.postconditions) where
  abbrev required : Emitting ⊤
  required = produce_all_code (kinds_of k) (place h m.at) m.preconditions

  abbrev chosen : Emitting ⊤
  chosen = either_code k.program (kinds_of k) h m m.body

  abbrev whole_method : Emitting ⊤
  whole_method = method_code k.program (kinds_of k) h m

  -- from where nothing is held: the precondition makes the old state
  pub method_along : ((s : State) (body : Body) → m.body ≡ Some body → RunsBody ts b (with_old k s) h formed (home_again s home) m post body) → (n : ℕ) (d : Configuration) (E : Env) → IsAt ts b k h n d E → HasRoom ts n (whole_method n).locals →
      Along b k.program.layout (λ s F. ⊤) (then_do (produce_all b m.preconditions (scene k d m.at) d.state) (λ s. run_method b (with_old k s) m m.body (with_state d s))) (λ cs. brun ts b (whole_method n).stmts E cs)
  method_along bodies n d E it room =
      let j = (required n).next in let us = (required n).locals in let ws = (chosen j).locals in
      let left = room_rest us ws ((produced_counted (kinds_of k) (place h m.at) m.preconditions).next n) room in
      emit_both ⊥ ts b k.program.layout required (λ u. then_emit (puts None (keep_old h)) (λ u. chosen)) n E (produce_all b m.preconditions (scene k d m.at) d.state) (λ s. run_method b (with_old k s) m m.body (with_state d s))
      (all_produced_along ts b k h home formed m.at n d E it m.preconditions pre (room_first us ws room))
      (λ s F after.
      let kept = old_kept ts b k h home j (with_state d s) F left.low after in
      sets_along ts b k.program.layout (puts None (keep_old h)) (λ u. chosen) j F kept.after (record { done = kept.done })
      (either_goes ts b (with_old k s) h formed (home_again s home) m post m.body (bodies s) j (with_state d s) kept.after kept.at left))

  pub method_counted : IsCounted chosen → IsCounted whole_method
  method_counted counted =
      then_counted required (λ u. then_emit (puts None (keep_old h)) (λ u. chosen)) (produced_counted (kinds_of k) (place h m.at) m.preconditions)
      (λ u. then_counted (puts None (keep_old h)) (λ u. chosen) (puts_counted None (keep_old h)) (λ u. counted))
