-- Loops: the invariants are given up, the targets take any values, and then the run makes one arbitrary turn or goes on behind the
-- loop.
use Rattle.std.specs.Bool.{⊤}
use Rattle.std.specs.Prelude.{Bool as Truth, true, false, not, if◌then◌else◌}
use Rattle.std.proofs.Common.{◌≡◌, ℕ, List, [], ◌++◌, append-nil, length-append, refl, sym, ap, subst, ◌∙◌, None, All, arith}
use Rattle.vb_base.specs.declared.places.Pos.{Pos}
use Rattle.vb_value.specs.Bound.{Bound}
use Rattle.vb_value.specs.Layout.{Layout}
use Rattle.vb_value.specs.declared.values.Ty.TheVariants as ty
use Rattle.viper_core.specs.Expr as e
use Rattle.viper_core.specs.Formed.{IsFormed}
use Rattle.viper_core.specs.Typing.{HasType, IsAssertion}
use Rattle.viper_state.specs.State.{State}
use Rattle.viper_meaning.specs.Ends.{is, blocks}
use Rattle.viper_meaning.specs.Forgotten.{forget}
use Rattle.viper_meaning.specs.Run.{Run, ended, goes, evaluating, then_do}
use Rattle.viper_meaning.specs.Statements.{Activation, Configuration, scene, with_state, taking_values, taking_branch, in_vain, produce_all, consume_all, exhale_all, after_loop, run_turn, run_loop}
use Rattle.viper_meaning.specs.Value.{truth_in}
use Rattle.viper_meaning.proofs.EmptiedLaws.{takes_any}
use Rattle.viper_meaning.proofs.ThenLaws.{then_then}
use Rattle.boogie_tree.specs.Expr as t
use Rattle.boogie_tree.specs.Program.{BType}
use Rattle.boogie_tree.specs.Stmt as stmt
use Rattle.boogie_tree.specs.Stmt.{BStmts, BStmt}
use Rattle.boogie_tree.specs.Value as bv
use Rattle.boogie_meaning.specs.Ends as end
use Rattle.boogie_meaning.specs.Operators.{negation}
use Rattle.boogie_meaning.specs.Quantified.{bvalue}
use Rattle.boogie_meaning.specs.Run.{brun}
use Rattle.enc_expr.specs.Code.{Emitting, then_emit, puts}
use Rattle.enc_expr.specs.Pieces.{Operand, one}
use Rattle.enc_expr.specs.Encoding.{code}
use Rattle.enc_expr.specs.Coupling.{Env}
use Rattle.enc_expr.proofs.AlikeLaws.{is_alike}
use Rattle.enc_expr.proofs.CodeLaws.{code_counted, then_counted, puts_counted}
use Rattle.enc_expr.proofs.FillLaws.{stopped_first}
use Rattle.enc_expr.proofs.FrameLaws.{kept_itself}
use Rattle.enc_expr.proofs.RunLaws.{join_assoc, assume_run}
use Rattle.enc_expr.proofs.Simulated.{IsCounted}
use Rattle.enc_assert.proofs.AlongsideLaws.{run_alongside, same_alongside, ended_alongside}
use Rattle.enc_assert.proofs.GoingLaws.{emit_both}
use Rattle.enc_block.specs.Encoding.{produce_all_code, exhale_code, assert_code, branching, stop, havoc_code, any_state_code, guard_code, turn_code, after_code, loop_code}
use Rattle.enc_block.specs.Home.{Home, place, kinds_of, whole, IsHome, IsAt, HasRoom}
use Rattle.enc_block.specs.Runs.{Runs}
use Rattle.enc_block.proofs.AnyStateLaws.{any_state_counted, emptied, any_along}
use Rattle.enc_block.proofs.ClauseLaws.{produced_counted}
use Rattle.enc_block.proofs.GoingLaws.{Along}
use Rattle.enc_block.proofs.HomeLaws.{at_kept}
use Rattle.enc_block.proofs.KindLaws.{either_along}
use Rattle.enc_block.proofs.ReadLaws.{truth_along}
use Rattle.enc_block.proofs.RoomLaws.{room_first, room_rest}
use Rattle.enc_block.proofs.StateLaws.{exhale_counted, assert_counted, all_produced_along, asserted_along, exhaled_along}
use Rattle.enc_block.proofs.TargetLaws.{havoc_counted, IsVariableOf, with_stored, targets_along}

-- ---- locals are counted

pub branching_counted : (kind : BStmts → BStmts → BStmt) (m o : Emitting ⊤) → IsCounted m → IsCounted o → IsCounted (branching kind m o)
branching_counted kind m o first second = record {
  next = λ n. let a = m n in let c = o a.next in omega (arith, length-append a.locals c.locals, first.next n, second.next a.next);
}

pub stop_counted : IsCounted stop
stop_counted = puts_counted None (one (stmt.Assume (t.Bool false)))

pub guard_counted : (k : Activation) (h : Home) (at : Pos) (guard : e.Expr) (side : t.BExpr → t.BExpr) → IsCounted (guard_code (kinds_of k) h at guard side)
guard_counted k h at guard side =
    then_counted (code (kinds_of k) (place h at) None guard) (λ x. puts None (one (stmt.Assume (side x.expr)))) (code_counted (kinds_of k) (place h at) None guard) (λ x. puts_counted None (one (stmt.Assume (side x.expr))))

-- ---- what is assumed

module _ (ts : List BType) (b : Bound) (layout : Layout) {Z : Type 0} {R : Z → Env → Type 0} where
  -- where it is false the run is blocked
  pub assumed_along : (x : t.BExpr) (q : Truth) (xs : BStmts) (E : Env) (v : Run Z) → bvalue b x E ≡ end.Is (bv.Bool q) → (q ≡ true → Along b layout R v (λ cs. brun ts b xs E cs)) →
      Along b layout R (if q then v else ended blocks) (λ cs. brun ts b (stmt.first (stmt.Assume x) xs) E cs)
  assumed_along x true xs E v value h = run_alongside ⊥ b layout (λ cs. assume_run ts b x true xs E cs value) (h refl)
  assumed_along x false xs E v value h = run_alongside ⊥ b layout (λ cs. assume_run ts b x false xs E cs value) (ended_alongside ⊥ b layout blocks (λ cs. stopped_first cs))

  -- nothing goes on
  pub stop_along : (n : ℕ) (E : Env) → Along b layout R (ended blocks) (λ cs. brun ts b (stop n).stmts E cs)
  stop_along n E = assumed_along (t.Bool false) false stmt.skip E (ended blocks) refl (λ no. absurd (cc))

-- where it has a value, the other one is that of its negation
other_value : (b : Bound) (x : t.BExpr) (q : Truth) (E : Env) → bvalue b x E ≡ end.Is (bv.Bool q) → bvalue b (t.Not x) E ≡ end.Is (bv.Bool (not q))
other_value b x q E h = λ j. end.then_with (h j) negation

other_way : {X : Type 0} (q : Truth) (x y : X) → (if q then x else y) ≡ (if not q then y else x)
other_way true x y = refl
other_way false x y = refl

vain_way : {X Y : Type 0} (q : Truth) (v : Run X) (go : X → Run Y) → then_do (if q then v else ended blocks) go ≡ (if q then then_do v go else ended blocks)
vain_way true v go = refl
vain_way false v go = refl

-- ---- loops

module _ (ts : List BType) (b : Bound) (k : Activation) (h : Home) (formed : IsFormed k.program) (home : IsHome ts k h) (at : Pos) (guard : e.Expr) (invariants : List e.Assertion) (body : Emitting ⊤) (run_body : Configuration → Run Configuration) (turn : Pos)
    (typed : HasType (whole k) guard ty.Bool) (all : All (IsAssertion (whole k)) invariants) (counted : IsCounted body) (runs : Runs ts b k h body run_body) where
  abbrev layout : Layout
  layout = k.program.layout

  abbrev begins : Emitting ⊤
  begins = any_state_code layout h

  abbrev invariant : Emitting ⊤
  invariant = produce_all_code (kinds_of k) (place h at) invariants

  abbrev enters : Emitting ⊤
  enters = guard_code (kinds_of k) h at guard (λ x. x)

  abbrev leaves : Emitting ⊤
  leaves = guard_code (kinds_of k) h at guard t.Not

  abbrev ends : Emitting ⊤
  ends = assert_code (kinds_of k) h turn invariants

  abbrev closing : Emitting ⊤
  closing = then_emit ends (λ u. stop)

  abbrev round : Emitting ⊤
  round = then_emit body (λ u. closing)

  abbrev entered : Emitting ⊤
  entered = then_emit enters (λ u. round)

  abbrev allowed : Emitting ⊤
  allowed = then_emit invariant (λ u. entered)

  abbrev one_turn : Emitting ⊤
  one_turn = turn_code (kinds_of k) h at guard invariants body turn

  abbrev behind : Emitting ⊤
  behind = after_code (kinds_of k) h at guard invariants

  closing_counted : IsCounted closing
  closing_counted = then_counted ends (λ u. stop) (assert_counted k h turn invariants) (λ u. stop_counted)

  round_counted : IsCounted round
  round_counted = then_counted body (λ u. closing) counted (λ u. closing_counted)

  entered_counted : IsCounted entered
  entered_counted = then_counted enters (λ u. round) (guard_counted k h at guard (λ x. x)) (λ u. round_counted)

  allowed_counted : IsCounted allowed
  allowed_counted = then_counted invariant (λ u. entered) (produced_counted (kinds_of k) (place h at) invariants) (λ u. entered_counted)

  turn_counted : IsCounted one_turn
  turn_counted = then_counted begins (λ u. allowed) (any_state_counted layout h) (λ u. allowed_counted)

  after_counted : IsCounted behind
  after_counted = then_counted invariant (λ u. leaves) (produced_counted (kinds_of k) (place h at) invariants) (λ u. guard_counted k h at guard t.Not)

  -- the run behind the loop
  after_along : (n : ℕ) (d : Configuration) (E : Env) → IsAt ts b k h n d E → HasRoom ts n (behind n).locals →
      Along b layout (IsAt ts b k h (behind n).next) (after_loop b k at guard invariants d) (λ cs. brun ts b (behind n).stmts E cs)
  after_along n d E it room =
      let m = (invariant n).next in let us = (invariant n).locals in let ws = (leaves m).locals in
      emit_both ⊥ ts b layout invariant (λ u. leaves) n E (produce_all b invariants (scene k d at) d.state) (λ s. evaluating (truth_in b guard s (scene k d at)) (λ holds. if holds then ended blocks else goes (with_state d s)))
      (all_produced_along ts b k h home formed at n d E it invariants all (room_first us ws room))
      (λ s F after.
      truth_along ts b k h formed m (with_state d s) F after at guard (λ x. puts None (one (stmt.Assume (t.Not x.expr)))) (room_rest us ws ((produced_counted (kinds_of k) (place h at) invariants).next n) room) typed
      (λ holds. if holds then ended blocks else goes (with_state d s)) (λ q G read left.
      let x = (code (kinds_of k) (place h at) None guard m).value in
      same_alongside ⊥ b layout (other_way q (ended blocks) (goes (with_state d s)))
      (assumed_along ts b layout (t.Not x.expr) (not q) stmt.skip G (goes (with_state d s)) (other_value b x.expr q G (read.valued.here G (λ i below. refl)))
      (λ holds. ended_alongside ⊥ b layout (is (with_state d s)) (λ cs. is_alike read.at)))))

  -- the end of a turn
  closed_along : {Z : Type 0} {R : Z → Env → Type 0} (n : ℕ) (d : Configuration) (E : Env) → IsAt ts b k h n d E → HasRoom ts n (closing n).locals →
      Along b layout R (then_do (consume_all b invariants d.state (scene k d turn) d.state) (λ left. ended blocks)) (λ cs. brun ts b (closing n).stmts E cs)
  closed_along n d E it room =
      emit_both ⊥ ts b layout ends (λ u. stop) n E (consume_all b invariants d.state (scene k d turn) d.state) (λ left. ended blocks)
      (asserted_along ts b k h home formed turn n d E it invariants all (room_first (ends n).locals [] room))
      (λ left F after. stop_along ts b layout (ends n).next F)

  -- its body, and its end
  round_along : {Z : Type 0} {R : Z → Env → Type 0} (n : ℕ) (d : Configuration) (E : Env) → IsAt ts b k h n d E → HasRoom ts n (round n).locals →
      Along b layout R (then_do (then_do (run_body d) (λ z. consume_all b invariants z.state (scene k z turn) z.state)) (λ left. ended blocks)) (λ cs. brun ts b (round n).stmts E cs)
  round_along n d E it room =
      let m = (body n).next in let us = (body n).locals in let ws = (closing m).locals in
      same_alongside ⊥ b layout (then_then (run_body d) (λ z. consume_all b invariants z.state (scene k z turn) z.state) (λ left. ended blocks))
      (emit_both ⊥ ts b layout body (λ u. closing) n E (run_body d) (λ z. then_do (consume_all b invariants z.state (scene k z turn) z.state) (λ left. ended blocks))
      (runs.goes n d E it (room_first us ws room))
      (λ z F after. closed_along m z F after (room_rest us ws (counted.next n) room)))

  -- what a turn does where the guard has this value
  abbrev goes_round : Configuration → Truth → Run State
  goes_round d q = if q then then_do (run_body d) (λ z. consume_all b invariants z.state (scene k z turn) z.state) else ended blocks

  -- where the guard holds
  entered_along : {Z : Type 0} {R : Z → Env → Type 0} (n : ℕ) (d : Configuration) (E : Env) → IsAt ts b k h n d E → HasRoom ts n (entered n).locals →
      Along b layout R (then_do (evaluating (truth_in b guard d.state (scene k d at)) (goes_round d)) (λ left. ended blocks)) (λ cs. brun ts b (entered n).stmts E cs)
  entered_along n d E it room =
      let reading = code (kinds_of k) (place h at) None guard in
      let x = (reading n).value in let m = (reading n).next in let us = (reading n).locals in let ws = (round m).locals in
      let go : Operand → Emitting ⊤ = λ x. then_emit (puts None (one (stmt.Assume x.expr))) (λ u. round) in
      run_alongside ⊥ b layout (λ cs. ap (λ xs. brun ts b xs E cs) (join_assoc (reading n).stmts (one (stmt.Assume x.expr)) (round m).stmts))
      (same_alongside ⊥ b layout (then_then (ended (truth_in b guard d.state (scene k d at))) (goes_round d) (λ left. ended blocks))
      (truth_along ts b k h formed n d E it at guard go (subst (λ vs. HasRoom ts n (vs ++ ws)) (append-nil us) room) typed (λ q. then_do (goes_round d q) (λ left. ended blocks)) (λ q F read left.
      same_alongside ⊥ b layout (vain_way q (then_do (run_body d) (λ z. consume_all b invariants z.state (scene k z turn) z.state)) (λ left. ended blocks))
      (assumed_along ts b layout x.expr q (round m).stmts F (then_do (then_do (run_body d) (λ z. consume_all b invariants z.state (scene k z turn) z.state)) (λ left. ended blocks)) (read.valued.here F (λ i below. refl))
      (λ holds. round_along m d F read.at left)))))

  -- what a turn does in this state
  abbrev from_any : Configuration → State → Run State
  from_any d any = then_do (produce_all b invariants (scene k d at) any) (λ s. evaluating (truth_in b guard s (scene k d at)) (goes_round (with_state d s)))

  allowed_along : {Z : Type 0} {R : Z → Env → Type 0} (n : ℕ) (d : Configuration) (E : Env) → IsAt ts b k h n d E → HasRoom ts n (allowed n).locals →
      Along b layout R (then_do (from_any d d.state) (λ left. ended blocks)) (λ cs. brun ts b (allowed n).stmts E cs)
  allowed_along n d E it room =
      let m = (invariant n).next in let us = (invariant n).locals in let ws = (entered m).locals in
      same_alongside ⊥ b layout (then_then (produce_all b invariants (scene k d at) d.state) (λ s. evaluating (truth_in b guard s (scene k d at)) (goes_round (with_state d s))) (λ left. ended blocks))
      (emit_both ⊥ ts b layout invariant (λ u. entered) n E (produce_all b invariants (scene k d at) d.state) (λ s. then_do (evaluating (truth_in b guard s (scene k d at)) (goes_round (with_state d s))) (λ left. ended blocks))
      (all_produced_along ts b k h home formed at n d E it invariants all (room_first us ws room))
      (λ s F after. entered_along m (with_state d s) F after (room_rest us ws ((produced_counted (kinds_of k) (place h at) invariants).next n) room)))

  -- one arbitrary turn, from which nothing goes on
  turn_along : {Z : Type 0} {R : Z → Env → Type 0} (n : ℕ) (d : Configuration) (E : Env) → IsAt ts b k h n d E → HasRoom ts n (one_turn n).locals →
      Along b layout R (in_vain (run_turn b k at guard invariants run_body turn d)) (λ cs. brun ts b (one_turn n).stmts E cs)
  turn_along n d E it room =
      let m = (begins n).next in let us = (begins n).locals in let ws = (allowed m).locals in
      let vain : State → Run _ = λ any. then_do (from_any d any) (λ left. ended blocks) in
      same_alongside ⊥ b layout
      (ap (λ v. then_do v (λ left. ended blocks)) (takes_any k.program d.state (from_any d) it.sound.fits) ∙ then_then (forget layout (emptied layout d.state)) (from_any d) (λ left. ended blocks) ∙ sym (takes_any k.program d.state vain it.sound.fits))
      (any_along ts b k h home at n d E it allowed vain room
      (λ s F after. allowed_along m (with_state d s) F after (room_rest us ws ((any_state_counted layout h).next n) room)))

  module _ (targets : List ℕ) (there : All (IsVariableOf k) targets) where
    abbrev both : Emitting ⊤
    both = branching stmt.Either one_turn behind

    pub loop_counted : IsCounted (loop_code (kinds_of k) h at guard invariants body turn targets)
    loop_counted =
        then_counted (exhale_code (kinds_of k) h at invariants) (λ u. then_emit (puts None (havoc_code h targets)) (λ u. both)) (exhale_counted k h at invariants)
        (λ u. then_counted (puts None (havoc_code h targets)) (λ u. both) (havoc_counted h targets) (λ u. branching_counted stmt.Either one_turn behind turn_counted after_counted))

    -- one of the two
    both_along : (n : ℕ) (d : Configuration) (E : Env) (q : Truth) → IsAt ts b k h n d E → HasRoom ts n (both n).locals →
        Along b layout (IsAt ts b k h (both n).next) (if q then in_vain (run_turn b k at guard invariants run_body turn d) else after_loop b k at guard invariants d)
        (λ cs. if q then brun ts b (one_turn n).stmts E cs else brun ts b (behind (one_turn n).next).stmts E cs)
    both_along n d E true it room = turn_along n d E it (room_first (one_turn n).locals (behind (one_turn n).next).locals room)
    both_along n d E false it room =
        after_along (one_turn n).next d E (at_kept (omega (arith, turn_counted.next n)) (kept_itself n E) it) (room_rest (one_turn n).locals (behind (one_turn n).next).locals (turn_counted.next n) room)

    pub loop_runs : Runs ts b k h (loop_code (kinds_of k) h at guard invariants body turn targets) (run_loop b k at guard invariants run_body turn targets)
    loop_runs = record {
      goes = λ n d E it room.
          let first = exhale_code (kinds_of k) h at invariants in let havocs : Emitting ⊤ = puts None (havoc_code h targets) in
          let m = (first n).next in let us = (first n).locals in let ws = (both m).locals in
          let left = room_rest us ws ((exhale_counted k h at invariants).next n) room in
          let choose : Configuration → Run Configuration = λ z. taking_branch (λ turns. if turns then in_vain (run_turn b k at guard invariants run_body turn z) else after_loop b k at guard invariants z) in
          emit_both ⊥ ts b layout first (λ u. then_emit havocs (λ u. both)) n E (exhale_all b k.program invariants d.state (scene k d at)) (λ s. then_do (taking_values k.vars targets) (λ vs. choose (with_stored (with_state d s) targets vs)))
          (exhaled_along ts b k h home formed at n d E it invariants all (room_first us ws room))
          (λ s F after.
          emit_both ⊥ ts b layout havocs (λ u. both) m F (taking_values k.vars targets) (λ vs. choose (with_stored (with_state d s) targets vs)) (targets_along ts b k h home targets there m (with_state d s) F after)
          (λ vs G taken.
          let z = with_stored (with_state d s) targets vs in
          either_along ts b layout G (one_turn m).stmts (behind (one_turn m).next).stmts (λ turns. if turns then in_vain (run_turn b k at guard invariants run_body turn z) else after_loop b k at guard invariants z)
          (λ q. both_along m z G q taken.at left)));
    }
