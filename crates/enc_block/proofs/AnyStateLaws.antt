-- Any state in which nothing is held: masks and amounts are emptied, and then all is forgotten.
use Rattle.std.specs.Bool.{⊤}
use Rattle.std.proofs.Common.{◌≡◌, ◌≤◌, ℕ, List, length, sym, subst, None, inr, arith}
use Rattle.std.proofs.lemmas.Option.{slice_get_within}
use Rattle.vb_base.specs.declared.places.Pos.{Pos}
use Rattle.vb_value.specs.Bound.{Bound}
use Rattle.vb_value.specs.Layout.{Layout}
use Rattle.viper_state.specs.State.{State, empty_state}
use Rattle.viper_meaning.specs.Forgotten.{forget}
use Rattle.viper_meaning.specs.Run.{Run}
use Rattle.viper_meaning.specs.Sat.{memo_of_state}
use Rattle.viper_meaning.specs.Statements.{Activation, Configuration, with_state, taking_state}
use Rattle.viper_meaning.proofs.EmptiedLaws.{emptied_fits, emptied_proper, emptied_nonnegative, takes_any}
use Rattle.boogie_tree.specs.Program.{BType}
use Rattle.boogie_tree.specs.Value.{BChoice}
use Rattle.boogie_meaning.specs.Run.{Done, brun}
use Rattle.enc_expr.specs.Place.{Spot, Heap, Content, IsSpot, IsHeld, local_at, IsLocalAt, AreApart}
use Rattle.enc_expr.specs.Code.{Emitting, then_emit, puts}
use Rattle.enc_expr.specs.Coupling.{Env, HasMaps}
use Rattle.enc_expr.proofs.CodeLaws.{then_counted, puts_counted}
use Rattle.enc_expr.proofs.CopyLaws.{held_moved}
use Rattle.enc_expr.proofs.FrameLaws.{map_moved, maps_below, but_less}
use Rattle.enc_expr.proofs.Simulated.{IsCounted}
use Rattle.enc_assert.specs.Encoding.{forget_code}
use Rattle.enc_assert.proofs.AlongsideLaws.{same_alongside}
use Rattle.enc_assert.proofs.ForgetSimulation.{forget_counted}
use Rattle.enc_assert.proofs.GoingLaws.{emit_both}
use Rattle.enc_fold.specs.Saved.{copy_held}
use Rattle.enc_block.specs.Encoding.{any_state_code}
use Rattle.enc_block.specs.Home.{Home, nothing_held, IsHome, IsAt, HasRoom}
use Rattle.enc_block.proofs.GoingLaws.{Along, sets_along}
use Rattle.enc_block.proofs.HomeLaws.{at_maps}
use Rattle.enc_block.proofs.RoomLaws.{room_first}
use Rattle.enc_block.proofs.StateLaws.{forgot_along}

pub any_state_counted : (layout : Layout) (h : Home) → IsCounted (any_state_code layout h)
any_state_counted layout h = then_counted (puts None (copy_held h.now h.nothing)) (λ u. forget_code layout h.now) (puts_counted None (copy_held h.now h.nothing)) (λ u. forget_counted h.now layout)

-- the state with the same heap and contents in which nothing is held
abbrev pub emptied : Layout → State → State
emptied layout s = empty_state layout (memo_of_state s)

module _ (ts : List BType) (b : Bound) (k : Activation) (h : Home) (home : IsHome ts k h) where
  abbrev layout : Layout
  layout = k.program.layout

  -- heaps and contents are none of the masks and amounts
  free_beside : (i : Spot) → IsSpot layout i → (IsHeld i → ⊥) → IsLocalAt IsHeld layout h.now (local_at h.now i) → ⊥
  free_beside i exists free mine = free (subst IsHeld (sym (home.now.apart i mine.spot tt exists mine.exists mine.there)) mine.kind)

  nothing_apart : AreApart IsHeld (IsLocalAt IsHeld layout h.nothing) layout h.now
  nothing_apart = record { apart = λ i j held there also e. home.now.apart i j tt there also e; beside = λ i held there other. home.now.beside i tt there (inr other) }

  -- the code runs through, and then nothing is held
  pub record IsEmptied (n : ℕ) (d : Configuration) (E : Env) : Type 0 where
    pub after : Env
    pub done : (cs : List BChoice) → brun ts b (copy_held h.now h.nothing) E cs ≡ Done after cs
    pub at : IsAt ts b k h n (with_state d (emptied layout d.state)) after

  pub state_emptied : (n : ℕ) (d : Configuration) (E : Env) → n ≤ length ts → IsAt ts b k h n d E → IsEmptied n d E
  state_emptied n d E low it =
      let moved = held_moved ts b layout h.now h.nothing (nothing_held layout) n n home.sizes E nothing_apart (λ i held exists. maps_below layout n h.now d.state E it.now i exists) (omega (arith, low, it.full)) it.nothing in
      let maps : HasMaps layout n h.now (emptied layout d.state) moved.after = record {
        heap = λ f u there.
            let map = it.now.heap f u there in
            map_moved map.below ((moved.kept n).same (local_at h.now (Heap f)) map.below (free_beside (Heap f) (slice_get_within layout.fields f u there) (λ no. no))) map;
        mask = moved.held.mask;
        amount = moved.held.amount;
        content = λ q us there.
            let map = it.now.content q us there in
            map_moved map.below ((moved.kept n).same (local_at h.now (Content q)) map.below (free_beside (Content q) (slice_get_within layout.keys q us there) (λ no. no))) map;
      } in
      record {
        after = moved.after;
        done = moved.done;
        at = at_maps home (omega arith) (but_less (λ i one. record { spot = one.spot; kind = tt; exists = one.exists; there = one.there }) (moved.kept n)) maps
            (record { fits = emptied_fits it.sound.fits; proper = emptied_proper layout it.sound.proper; nonnegative = emptied_nonnegative layout d.state }) it;
      }

  module _ (at : Pos) (n : ℕ) (d : Configuration) (E : Env) (it : IsAt ts b k h n d E) where
    abbrev first : Emitting ⊤
    first = any_state_code layout h

    -- a run that takes any state in which nothing is held, beside the code and what is written behind it
    pub any_along : {Z : Type 0} {R : Z → Env → Type 0} (next : Emitting ⊤) (go : State → Run Z) → HasRoom ts n (then_emit first (λ u. next) n).locals →
        ((s : State) (F : Env) → IsAt ts b k h (first n).next (with_state d s) F → Along b layout R (go s) (λ cs. brun ts b (next (first n).next).stmts F cs)) →
        Along b layout R (taking_state k.program go) (λ cs. brun ts b (then_emit first (λ u. next) n).stmts E cs)
    any_along next go room f =
        let empty = state_emptied n d E room.low it in
        let here = room_first (first n).locals (next (first n).next).locals room in
        same_alongside ⊥ b layout (takes_any k.program d.state go it.sound.fits)
        (emit_both ⊥ ts b layout first (λ u. next) n E (forget layout (emptied layout d.state)) go
        (sets_along ts b layout (puts None (copy_held h.now h.nothing)) (λ u. forget_code layout h.now) n E empty.after (record { done = empty.done })
        (forgot_along ts b k h home at n (with_state d (emptied layout d.state)) empty.after empty.at here))
        f)
