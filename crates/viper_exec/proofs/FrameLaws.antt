-- Blocks, loops and calls unfold as if bodies could nest without end, and loops turn without end: a budget is deep enough for itself.
use Rattle.std.proofs.Common.{◌≡◌, refl, sym, ap, ◌∙◌, arith, ℕ, zero, suc, ◌+◌, ◌-◌, ◌≤◌, Bool, true, false, List, ◌∷◌, ◌++◌, slice_get, if◌then◌else◌}
use Rattle.lemmas.proofs.Tests.{if_same}
use Rattle.vb_base.specs.declared.places.Pos.{Pos}
use Rattle.vb_value.specs.Bound.{Bounded}
use Rattle.vb_value.specs.declared.values.Value.{Value}
use Rattle.viper_core.specs.Expr as t
use Rattle.viper_core.specs.Program.{Method, Body}
use Rattle.viper_core.specs.Stmt as s
use Rattle.viper_state.specs.Run.{with_variables}
use Rattle.viper_meaning.specs.Ends.{found}
use Rattle.viper_meaning.specs.Run.{Run, ended, goes, then_do}
use Rattle.viper_meaning.specs.Statements.{Activation, Configuration, scene, consume_all, taking_values, called, run_stmt}
use Rattle.viper_meaning.specs.Units.{first_store}
use Rattle.viper_meaning.specs.Value.{values, truth_in}
use Rattle.viper_meaning.proofs.ThenLaws.{then_then, then_same, goes_then}
use Rattle.viper_exec_meaning.specs.Execution.{Went, Still, Spent, with_went, going_on, keeping, beginning, asserting, Bodies, returns_in, exec_call, exec_called, exec_turns, exec_stmt, exec_block, bodies_within}
use Rattle.viper_exec_meaning.proofs.BudgetDepthLaws.{IsLeft, LeavesAtMost, stmt_left, block_left, within_left, deeper_block, same_after}
use Rattle.viper_exec.specs.Frames.{Caller, Frame, Block, Turn, End, Return, Machine, bodies, block, turns, turned, configuration_at, resume, doing, doing_plain, turning, calling, calling_bare}
use Rattle.viper_exec.specs.Steps.{call_begun, returns_taken, entry_of}

-- ---- runs after runs

going_then : {X Y Z : Type 0} (r : Run (Went X)) (f : ℕ → X → Run (Went Y)) (go : ℕ → Y → Run (Went Z)) → going_on (going_on r f) go ≡ going_on r (λ n x. going_on (f n x) go)
going_then r f go = then_then r (λ w. with_went w f) (λ w. with_went w go) ∙ then_same r by
  where
    by : (w : Went _) → then_do (with_went w f) (λ w. with_went w go) ≡ with_went w (λ n x. going_on (f n x) go)
    by (Still n x) = refl
    by Spent = goes_then Spent (λ w. with_went w go)

begun_then : {X Y : Type 0} (n : ℕ) (f : ℕ → Run (Went X)) (go : ℕ → X → Run (Went Y)) → going_on (beginning n f) go ≡ beginning n (λ n. going_on (f n) go)
begun_then zero f go = goes_then Spent (λ w. with_went w go)
begun_then (suc n) f go = refl

begun_same : {X : Type 0} (n : ℕ) {f g : ℕ → Run (Went X)} → ((n : ℕ) → f n ≡ g n) → beginning n f ≡ beginning n g
begun_same zero e = refl
begun_same (suc n) e = e n

keeping_then : {X Y : Type 0} (n : ℕ) (r : Run X) (go : ℕ → X → Run (Went Y)) → going_on (keeping n r) go ≡ then_do r (go n)
keeping_then n r go = then_then r (λ x. goes (Still n x)) (λ w. with_went w go) ∙ then_same r (λ x. goes_then (Still n x) (λ w. with_went w go))

going_same : {X Y : Type 0} (r : Run (Went X)) {f g : ℕ → X → Run (Went Y)} → ((n : ℕ) (x : X) → f n x ≡ g n x) → going_on r f ≡ going_on r g
going_same r {f = f} {g = g} e = then_same r by
  where
    by : (w : Went _) → with_went w f ≡ with_went w g
    by (Still n x) = e n x
    by Spent = refl

-- what goes on with no more than this
left_same : {X Y : Type 0} {most : ℕ} {r : Run (Went X)} {f g : ℕ → X → Run (Went Y)} → LeavesAtMost most r → ((n : ℕ) (x : X) → n ≤ most → f n x ≡ g n x) → going_on r f ≡ going_on r g
left_same {most = most} {f = f} {g = g} h e = same_after h by
  where
    by : (w : Went _) → IsLeft most w → with_went w f ≡ with_went w g
    by (Still n x) i = e n x i
    by Spent i = refl

-- ---- turns, of loops whose bodies run alike

module _ (k : Activation) (at : Pos) (guard : t.Expr) (invariants : List t.Assertion) (turn : Pos) (f g : ℕ → Configuration → Run (Went Configuration)) (limit : ℕ)
    (alike : (n : ℕ) (c : Configuration) → n ≤ limit → f n c ≡ g n c) (leaves : (n : ℕ) (c : Configuration) → LeavesAtMost n (f n c)) where
  turns_alike : (most many n : ℕ) (c : Configuration) → n ≤ limit → n ≤ most → n ≤ many → exec_turns Bounded k at guard invariants f turn most n c ≡ exec_turns Bounded k at guard invariants g turn many n c
  turns_alike zero zero n c low le ge = refl
  turns_alike zero (suc many) zero c low le ge = refl
  turns_alike zero (suc many) (suc n) c low le ge = absurd (omega (arith, le))
  turns_alike (suc most) zero zero c low le ge = refl
  turns_alike (suc most) zero (suc n) c low le ge = absurd (omega (arith, ge))
  turns_alike (suc most) (suc many) zero c low le ge = refl
  turns_alike (suc most) (suc many) (suc n) c low le ge = then_same (ended (truth_in Bounded guard c.state (scene k c at))) (λ holds. if_same holds
      (left_same (leaves n c) (λ j d i. then_same (consume_all Bounded invariants d.state (scene k d turn) d.state) (λ s. turns_alike most many j d (omega (arith, i, low)) (omega (arith, i, le)) (omega (arith, i, ge))))
      ∙ ap (λ r. going_on r (λ j d. asserting Bounded invariants d.state (scene k d turn) (exec_turns Bounded k at guard invariants g turn many j d))) (alike n c (omega (arith, low))))
      refl)

-- ---- the frames of an activation

module _ (k : Activation) (frames : List Frame) (c : Configuration) where
  abbrev here : Machine
  here = record { activation = k; configuration = c; frames = frames }

  shallower : (xs : s.Stmts) (n j : ℕ) (d : Configuration) → j ≤ n → exec_block Bounded (bodies k n) k xs j d ≡ block k xs j d
  shallower xs n j d le =
      let more : j + (n - j) ≡ n = omega (arith, le) in
      sym (deeper_block Bounded k.program j (n - j) k xs j d (omega arith) ∙ ap (λ depth. exec_block Bounded (bodies_within Bounded k.program depth) k xs j d) more)

  leaves_block : (xs : s.Stmts) (n j : ℕ) (d : Configuration) → LeavesAtMost j (exec_block Bounded (bodies k n) k xs j d)
  leaves_block xs n j d = block_left Bounded (bodies k n) (within_left Bounded k.program n) k xs j j d (omega arith)

  -- the first statement of a block, and then the others
  pub block_next : (a : s.Stmt) (rest : s.Stmts) (n : ℕ) → resume (Block (s.next a rest) ∷ frames) k n c ≡ doing (record { activation = k; configuration = c; frames = Block rest ∷ frames }) a n
  block_next a rest n =
      ap (λ r. going_on r (resume frames k)) (left_same (stmt_left Bounded (bodies k n) (within_left Bounded k.program n) k a n n c (omega arith)) (λ j d le. shallower rest n j d le))
      ∙ going_then (exec_stmt Bounded (bodies k n) k a n c) (block k rest) (resume frames k)

  pub block_done : (n : ℕ) → resume (Block s.skip ∷ frames) k n c ≡ resume frames k n c
  block_done n = goes_then (Still n c) (λ w. with_went w (resume frames k))

  pub plain : (a : s.Stmt) (n : ℕ) → doing_plain here a n ≡ then_do (run_stmt Bounded k a c) (λ d. resume frames k n d)
  plain a n = keeping_then n (run_stmt Bounded k a c) (resume frames k)

  -- one of two blocks
  pub either : (at : Pos) (e : t.Expr) (first second : s.Stmts) (n : ℕ) → doing here (s.If at e first second) n ≡
      then_do (ended (truth_in Bounded e c.state (scene k c at))) (λ holds. resume (Block (if holds then first else second) ∷ frames) k n c)
  either at e first second n =
      then_then (ended (truth_in Bounded e c.state (scene k c at))) (λ holds. if holds then block k first n c else block k second n c) (λ w. with_went w (resume frames k))
      ∙ then_same (ended (truth_in Bounded e c.state (scene k c at))) by
    where
      by : (holds : Bool) → going_on (if holds then block k first n c else block k second n c) (resume frames k) ≡ resume (Block (if holds then first else second) ∷ frames) k n c
      by true = refl
      by false = refl

  module _ (at : Pos) (guard : t.Expr) (invariants : List t.Assertion) (body : s.Stmts) (turn : Pos) (targets : List ℕ) where
    abbrev w : s.Loop
    w = s.loop at guard invariants body turn targets

    -- a turn, and what comes after it
    abbrev pub a_turn : ℕ → Run (Went Configuration)
    a_turn n = resume (Block body ∷ Turn w ∷ frames) k n c

    abbrev pub turn_or_end : ℕ → Bool → Run (Went Configuration)
    turn_or_end n holds = if holds then beginning n a_turn else resume frames k n c

    turns_at : (n : ℕ) → turns k w n c ≡ then_do (ended (truth_in Bounded guard c.state (scene k c at))) (λ holds. if holds then beginning n (λ n. going_on (block k body n c) (turned k w)) else goes (Still n c))
    turns_at zero = refl
    turns_at (suc n) = then_same (ended (truth_in Bounded guard c.state (scene k c at))) (λ holds. if_same holds
        (left_same (leaves_block body n n c) (λ j d le. then_same (consume_all Bounded invariants d.state (scene k d turn) d.state) (λ st.
        turns_alike k at guard invariants turn (block k body) (block k body) n (λ i e le. refl) (λ i e. leaves_block body i i e) n j j d le le (omega arith))))
        refl)

    pub turn_next : (n : ℕ) → turning here w n ≡ then_do (ended (truth_in Bounded guard c.state (scene k c at))) (turn_or_end n)
    turn_next n =
        ap (λ r. going_on r (resume frames k)) (turns_at n)
        ∙ then_then (ended (truth_in Bounded guard c.state (scene k c at))) (λ holds. if holds then beginning n (λ n. going_on (block k body n c) (turned k w)) else goes (Still n c)) (λ w. with_went w (resume frames k))
        ∙ then_same (ended (truth_in Bounded guard c.state (scene k c at))) by
      where
        by : (holds : Bool) → going_on (if holds then beginning n (λ n. going_on (block k body n c) (turned k w)) else goes (Still n c)) (resume frames k) ≡ turn_or_end n holds
        by true = begun_then n (λ n. going_on (block k body n c) (turned k w)) (resume frames k) ∙ begun_same n (λ n. going_then (block k body n c) (turned k w) (resume frames k))
        by false = goes_then (Still n c) (λ w. with_went w (resume frames k))

    pub turn_ended : (n : ℕ) → resume (Turn w ∷ frames) k n c ≡ asserting Bounded invariants c.state (scene k c turn) (turning here w n)
    turn_ended n = then_then (consume_all Bounded invariants c.state (scene k c turn) c.state) (λ left. turns k w n c) (λ w. with_went w (resume frames k))

    pub loop_entered : (n : ℕ) → doing here (s.While w) n ≡ asserting Bounded invariants c.state (scene k c at) (turning here w n)
    loop_entered n =
        then_then (consume_all Bounded invariants c.state (scene k c at) c.state) (λ left. exec_turns Bounded k at guard invariants (λ j d. exec_block Bounded (bodies k n) k body j d) turn n n c) (λ w. with_went w (resume frames k))
        ∙ then_same (consume_all Bounded invariants c.state (scene k c at) c.state) (λ left. ap (λ r. going_on r (resume frames k))
        (turns_alike k at guard invariants turn (λ j d. exec_block Bounded (bodies k n) k body j d) (block k body) n (λ j d le. shallower body n j d le) (λ j d. leaves_block body n j d) n n n c (omega arith) (omega arith) (omega arith)))

  -- ---- a call

  module _ (at : Pos) (targets : List ℕ) (number : ℕ) (es : t.Exprs) where
    abbrev pub to_called : ℕ → List Value → Method → Run (Went Configuration)
    to_called n vs callee = going_on (exec_called Bounded (bodies k n) k targets callee callee.body vs at n c) (resume frames k)

    abbrev pub to_callee : ℕ → List Value → Run (Went Configuration)
    to_callee n vs = then_do (ended (found (slice_get k.program.methods number))) (to_called n vs)

    pub call_next : (n : ℕ) → doing here (s.Call at targets number es) n ≡ then_do (ended (values Bounded es c.state (scene k c at))) (to_callee n)
    call_next n =
        then_then (ended (values Bounded es c.state (scene k c at))) (λ vs. then_do (ended (found (slice_get k.program.methods number))) (λ callee. exec_called Bounded (bodies k n) k targets callee callee.body vs at n c)) (λ w. with_went w (resume frames k))
        ∙ then_same (ended (values Bounded es c.state (scene k c at))) (λ vs.
        then_then (ended (found (slice_get k.program.methods number))) (λ callee. exec_called Bounded (bodies k n) k targets callee callee.body vs at n c) (λ w. with_went w (resume frames k)))

  module _ (at : Pos) (targets : List ℕ) (callee : Method) (args : List Value) where
    pub bare_next : (n : ℕ) → calling_bare here at targets callee args n ≡ then_do (called Bounded k targets callee args at c) (λ d. resume frames k n d)
    bare_next n = keeping_then n (called Bounded k targets callee args at c) (resume frames k)

    module _ (body : Body) where
      abbrev pub starts : List Value → Configuration
      starts given = record { store = first_store callee given; state = c.state }

      abbrev pub caller : Caller
      caller = record { callee = callee; targets = targets; vars = k.vars; old = k.old; store = c.store }

      -- the body, and then the caller
      abbrev pub a_body : List Value → ℕ → Run (Went Configuration)
      a_body given n = resume (Block body.stmts ∷ End callee body.turn ∷ Return caller ∷ frames) (entry_of k.program callee (starts given)) n (starts given)

      -- the postconditions of the body that runs from here, and then its caller
      abbrev checked : (given : List Value) → ℕ → Configuration → Run (Went Configuration)
      checked given j d = asserting Bounded callee.postconditions d.state (scene (entry_of k.program callee (starts given)) d body.turn) (goes (Still j d))

      abbrev back : ℕ → Configuration → Run (Went Configuration)
      back j d = goes (Still j (configuration_at caller d))

      abbrev called_by : Bodies → List Value → ℕ → Run (Went Configuration)
      called_by bs given j = going_on (bs callee body given c.state j) back

      call_is : (bs : Bodies) (n : ℕ) → exec_call Bounded bs k targets callee body args at n c ≡ then_do (call_begun callee args (with_variables args (scene k c at)) c.state) (λ given. beginning n (called_by bs given))
      call_is bs n =
          then_same (consume_all Bounded callee.preconditions c.state (with_variables args (scene k c at)) c.state) (λ left.
          sym (then_then (taking_values callee.vars (returns_in callee)) (λ vs. goes (args ++ vs)) (λ given. beginning n (called_by bs given)) ∙ then_same (taking_values callee.vars (returns_in callee)) (λ vs. goes_then (args ++ vs) (λ given. beginning n (called_by bs given)))))
          ∙ sym (then_then (consume_all Bounded callee.preconditions c.state (with_variables args (scene k c at)) c.state) (λ left. returns_taken callee args) (λ given. beginning n (called_by bs given)))

      returned_then : (given : List Value) (j : ℕ) (d : Configuration) → going_on (going_on (checked given j d) back) (resume frames k) ≡
          asserting Bounded callee.postconditions d.state (scene (entry_of k.program callee (starts given)) d body.turn) (resume frames k j (configuration_at caller d))
      returned_then given j d =
          let consumes = consume_all Bounded callee.postconditions d.state (scene (entry_of k.program callee (starts given)) d body.turn) d.state in
          ap (λ r. going_on r (resume frames k)) (then_then consumes (λ left. goes (Still j d)) (λ w. with_went w back) ∙ then_same consumes (λ left. goes_then (Still j d) (λ w. with_went w back)))
          ∙ then_then consumes (λ left. back j d) (λ w. with_went w (resume frames k)) ∙ then_same consumes (λ left. goes_then (Still j (configuration_at caller d)) (λ w. with_went w (resume frames k)))

      body_then : (given : List Value) (n : ℕ) → going_on (called_by (bodies k (suc n)) given n) (resume frames k) ≡ a_body given n
      body_then given n =
          let runs = block (entry_of k.program callee (starts given)) body.stmts n (starts given) in
          ap (λ r. going_on r (resume frames k)) (going_then runs (checked given) back)
          ∙ going_then runs (λ j d. going_on (checked given j d) back) (resume frames k)
          ∙ going_same runs (λ j d. returned_then given j d)

      begun_then_body : (given : List Value) (n : ℕ) → going_on (beginning n (called_by (bodies k n) given)) (resume frames k) ≡ beginning n (a_body given)
      begun_then_body given zero = goes_then Spent (λ w. with_went w (resume frames k))
      begun_then_body given (suc n) = body_then given n

      pub body_next : (n : ℕ) → calling here at targets callee body args n ≡ then_do (call_begun callee args (with_variables args (scene k c at)) c.state) (λ given. beginning n (a_body given))
      body_next n =
          ap (λ r. going_on r (resume frames k)) (call_is (bodies k n) n)
          ∙ then_then (call_begun callee args (with_variables args (scene k c at)) c.state) (λ given. beginning n (called_by (bodies k n) given)) (λ w. with_went w (resume frames k))
          ∙ then_same (call_begun callee args (with_variables args (scene k c at)) c.state) (λ given. begun_then_body given n)
