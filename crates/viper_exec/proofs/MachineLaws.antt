-- The exits of the steps of a machine: one lemma for each.
use Rattle.std.proofs.Common.{◌≡◌, refl, sym, ap, ◌∙◌, subst, arith, ℕ, zero, suc, ◌+◌, ◌<◌, ◌≤◌, length, Bool, true, false, Some, None, List, [], ◌∷◌, ◌++◌, All, slice_get, Result, Ok, Err, IsErrAnd, if◌then◌else◌}
use Rattle.std.specs.Prelude.{⊤}
use Rattle.std.proofs.lemmas.List.{append-nil}
use Rattle.std.proofs.lemmas.Result.{err_from_is_err_and}
use Rattle.vb_base.specs.declared.places.Pos.{Pos}
use Rattle.vb_value.specs.Bound.{Bounded}
use Rattle.vb_value.specs.Value.{IsWithinValue}
use Rattle.vb_value.specs.declared.values.Ty.{Ty}
use Rattle.vb_value.specs.declared.values.Value.{Value}
use Rattle.viper_core.specs.Expr as t
use Rattle.viper_core.specs.Program.{Method, Body}
use Rattle.viper_core.specs.Stmt as s
use Rattle.viper_core.specs.View.{stmt_of, stmts_of}
use Rattle.viper_core.specs.declared.stmts.Stmt as stmt
use Rattle.viper_state.specs.Run.{Feed, with_variables}
use Rattle.viper_state.specs.State.{State}
use Rattle.viper_meaning.specs.Ends.{found, is}
use Rattle.viper_meaning.specs.Run.{Run, ended, then_do}
use Rattle.viper_meaning.specs.StatementLiterals.{AreWithinStmts, IsWithinMethod, IsWithinStmt}
use Rattle.viper_meaning.specs.Statements.{Activation, Configuration, scene, stored, called, run_stmt}
use Rattle.viper_meaning.specs.Units.{first_store}
use Rattle.viper_meaning.specs.Value.{values, truth_in}
use Rattle.viper_meaning.proofs.ShapeLaws.{called_shape, run_stmt_shape}
use Rattle.viper_meaning.proofs.StatementKeptLaws.{called_within, run_stmt_within}
use Rattle.viper_meaning.proofs.ThenLaws.{goes_then}
use Rattle.viper_inhale.specs.Answers.{Does}
use Rattle.viper_inhale.specs.declared.answers.StepHalt.{StepHalt}
use Rattle.viper_run.proofs.ReadyLaws.{ready_at, stays_ready, still_ready, within_of}
use Rattle.viper_exec_meaning.specs.Execution.{Went, going_on, beginning, exec_called, returned}
use Rattle.viper_exec.specs.declared.answers.Quit.{Quit}
use Rattle.viper_exec.specs.declared.answers.Quit.TheVariants as quit
use Rattle.viper_exec.specs.declared.frames.Frame as frame
use Rattle.viper_exec.specs.Answers.{Executes, Advances, HasBegun, Steps, goes_on, ends}
use Rattle.viper_exec.specs.Frames.{Caller, Frame, Block, Turn, End, Return, Machine, IsReadyMachine, IsReadyFrame, AreReady, bodies, resume, going, doing, doing_plain, turning, turning_from, calling, calling_bare, returned_to, activation_at, frame_steps, steps_of, steps_in, steps_left}
use Rattle.viper_exec.specs.Steps.{IsReadyBody, asserted, call_begun, entry_of}
use Rattle.viper_exec.specs.View.{frame_of, frames_over}
use Rattle.viper_exec.proofs.TakesLaws.{Reaches, takes_after, same_runs, after, then_executes, first_goes, first_stops, begins, nothing_left}
use Rattle.viper_exec.proofs.AssertLaws.{asserts, assert_stops}
use Rattle.viper_exec.proofs.FrameLaws.{block_next, block_done, plain, either, a_turn, turn_or_end, turn_next, turn_ended, loop_entered, to_called, to_callee, call_next, bare_next, caller, starts, a_body, body_next}
use Rattle.viper_exec.proofs.NeedLaws.{body_within, entry_ready, returned_ready}
use Rattle.viper_exec.proofs.OtherLaws.{others}

-- ---- the stack

pub over_more : (xs : List frame.Frame) (x : frame.Frame) (below : List Frame) → frames_over (xs ++ x ∷ []) below ≡ frame_of x ∷ frames_over xs below
over_more [] x below = refl
over_more (y ∷ ys) x below = over_more ys x (frame_of y ∷ below)

pub pushed : (xs ys : List frame.Frame) (x : frame.Frame) → ys ≡ xs ++ x ∷ [] → frames_over ys [] ≡ frame_of x ∷ frames_over xs []
pushed xs ys x more = ap (λ ys. frames_over ys []) more ∙ over_more xs x []

no_items : {X : Type 0} (xs : List X) → length xs ≡ zero → xs ≡ []
no_items [] e = refl
no_items (x ∷ xs) e = absurd (omega (arith, e))

-- ---- steps after steps

pub then_advances : {X : Type 0} {f g h : Feed} {r u : ℕ → Run (Went Configuration)} {a b c : ℕ} {at : Machine} {P Q : X → Type 0} {q : Result X Quit} → Reaches f a r g b u → (c ≤ b → (x : X) → P x → Q x) → Advances g b u h c at P q → Advances f a r h c at Q q
then_advances i k (goes_on {x = x} t ready p) = goes_on (takes_after i t) ready (k (omega (arith, t.all)) x p)
then_advances i k (ends e) = ends (then_executes i e)

pub then_steps : {X : Type 0} {f g h : Feed} {r u : ℕ → Run (Went Configuration)} {a b c low most : ℕ} {at : Machine} {q : Result X Quit} → Reaches f a r g b u → low ≤ most → Steps g b u low h c at q → Steps f a r most h c at q
then_steps i le h = then_advances i (λ fewer x p same. omega (arith, p (omega (arith, same, fewer, i.takes.all)), le)) h

pub step_ends : {X : Type 0} {f g : Feed} {r : ℕ → Run (Went Configuration)} {n left : ℕ} {at : Machine} {P : X → Type 0} (q : Result X Quit) (w : Quit) → IsErrAnd q (λ h. h ≡ w) → Executes {X = Configuration} (λ c. c) f n r g left (Err w) → Advances f n r g left at P q
step_ends {f = f} {g = g} {r = r} {n = n} {left = left} {at = at} {P = P} q w given h =
    let p = err_from_is_err_and q given in
    subst (λ q. Advances f n r g left at P q) (sym (p.1 ∙ ap Err p.2)) (ends h)

pub steps_to : {X : Type 0} {f g : Feed} {r : ℕ → Run (Went Configuration)} {n left : ℕ} {at : Machine} {P : X → Type 0} {x : X} → Reaches f n r g left (going at) → IsReadyMachine at g → P x → Advances f n r g left at P (Ok x)
steps_to h ready p = goes_on h.takes ready p

pub reached : {X : Type 0} {f g : Feed} {r : ℕ → Run (Went Configuration)} {n left : ℕ} {at : Machine} {P : X → Type 0} {x : X} → Advances f n r g left at P (Ok x) → Reaches f n r g left (going at)
reached (goes_on t ready p) = record { takes = t }

pub ready_then : {X : Type 0} {f g : Feed} {r : ℕ → Run (Went Configuration)} {n left : ℕ} {at : Machine} {P : X → Type 0} {x : X} → Advances f n r g left at P (Ok x) → IsReadyMachine at g
ready_then (goes_on t ready p) = ready

pub holds_then : {X : Type 0} {f g : Feed} {r : ℕ → Run (Went Configuration)} {n left : ℕ} {at : Machine} {P : X → Type 0} {x : X} → Advances f n r g left at P (Ok x) → P x
holds_then (goes_on t ready p) = p

pub ended_there : {X : Type 0} {f g : Feed} {r : ℕ → Run (Went Configuration)} {n left : ℕ} {at : Machine} {P : X → Type 0} {w : Quit} → Advances f n r g left at P (Err w) → Executes {X = Configuration} (λ c. c) f n r g left (Err w)
ended_there (ends h) = h

a_step : (a : s.Stmt) → 1 ≤ steps_of a
a_step (s.Var at x e) = omega arith
a_step (s.Assign at x e) = omega arith
a_step (s.Write at e field place d) = omega arith
a_step (s.New at x fields refs) = omega arith
a_step (s.Call at xs number args) = omega arith
a_step (s.Inhale at a) = omega arith
a_step (s.Exhale at a) = omega arith
a_step (s.Assert at a) = omega arith
a_step (s.Fold f) = omega arith
a_step (s.Unfold f) = omega arith
a_step (s.If at e first second) = omega arith
a_step (s.While w) = omega arith

-- ---- a machine

module _ (k : Activation) (c : Configuration) (frames : List Frame) where
  abbrev here : Machine
  here = record { activation = k; configuration = c; frames = frames }

  pub pushed_ready : {f : Feed} {above : List Frame} {x : Frame} → above ≡ x ∷ frames → IsReadyFrame x → IsReadyMachine here f → IsReadyMachine (record { activation = k; configuration = c; frames = above }) f
  pushed_ready {f = f} more ok h = record { formed = h.formed; ready = h.ready; frames = subst AreReady (sym more) (ok, h.frames) }

  pub later_ready : {f g : Feed} → g.left ≡ f.left → IsReadyMachine here f → IsReadyMachine here g
  later_ready left h = record { formed = h.formed; ready = ready_at h.ready left; frames = h.frames }

  pub after_ready : {X Z : Type 0} {v : Z → X} {f g : Feed} {r : Run X} {z : Z} → Does v f r g (Ok z) → IsReadyMachine here f → IsReadyMachine here g
  after_ready d h = record { formed = h.formed; ready = still_ready h.ready d; frames = h.frames }

  -- ---- the frame on top

  pub frame_as : {f g : Feed} {n left : ℕ} {at : Machine} {q : Result ⊤ Quit} {x y : Frame} → x ≡ y → Steps f n (λ n. resume (y ∷ frames) k n c) (frame_steps y + steps_left frames) g left at q →
      Steps f n (λ n. resume (x ∷ frames) k n c) (frame_steps x + steps_left frames) g left at q
  frame_as {f = f} {g = g} {n = n} {left = left} {at = at} {q = q} same h = subst (λ x. Steps f n (λ n. resume (x ∷ frames) k n c) (frame_steps x + steps_left frames) g left at q) (sym same) h

  -- ---- a block

  module _ {f : Feed} (n : ℕ) (xs : List stmt.Stmt) where
    pub block_over : {x : ⊤} → length xs ≡ zero → IsReadyMachine here f → Steps f n (λ n. resume (Block (stmts_of xs) ∷ frames) k n c) (1 + steps_in (stmts_of xs) + steps_left frames) f n here (Ok x)
    block_over none ready = steps_to (same_runs n (λ j. ap (λ xs. resume (Block (stmts_of xs) ∷ frames) k j c) (no_items xs none) ∙ block_done k frames c j)) ready (λ same. omega arith)

    pub block_begun : {X : Type 0} {g : Feed} {left : ℕ} {at : Machine} {q : Result X Quit} (a : stmt.Stmt) (rest : List stmt.Stmt) {above : List Frame} → xs ≡ a ∷ rest → above ≡ Block (stmts_of rest) ∷ frames →
        Steps f n (doing (record { activation = k; configuration = c; frames = above }) (stmt_of a)) (steps_of (stmt_of a) + steps_left above) g left at q →
        Steps f n (λ n. resume (Block (stmts_of xs) ∷ frames) k n c) (1 + steps_in (stmts_of xs) + steps_left frames) g left at q
    block_begun a rest cut more h =
        let fewer = ap steps_left more in
        let all = ap (λ xs. steps_in (stmts_of xs)) cut in
        then_steps (same_runs n (λ j. ap (λ xs. resume (Block (stmts_of xs) ∷ frames) k j c) cut ∙ block_next k frames c (stmt_of a) (stmts_of rest) j ∙ ap (λ fs. doing (record { activation = k; configuration = c; frames = fs }) (stmt_of a) j) (sym more)))
        (omega (arith, fewer, all)) h

  -- ---- a statement

  module _ {X : Type 0} {f g : Feed} (n : ℕ) {left : ℕ} {at : Machine} {q : Result X Quit} where
    pub stmt_as : {a b : s.Stmt} {low : ℕ} → a ≡ b → low ≤ steps_of b + steps_left frames → Steps f n (doing here b) low g left at q → Steps f n (doing here a) (steps_of a + steps_left frames) g left at q
    stmt_as same le h = let steps = ap steps_of same in then_steps (same_runs n (λ j. ap (λ a. doing here a j) same)) (omega (arith, le, steps)) h

    pub other_as : (a : stmt.Stmt) → ((at : _) (xs : _) (m : _) (args : _) → a ≡ stmt.Call at xs m args → ⊥) → ((at : _) (e : _) (x : _) (y : _) → a ≡ stmt.If at e x y → ⊥) → ((w : _) → a ≡ stmt.While w → ⊥) →
        Steps f n (doing_plain here (stmt_of a)) (1 + steps_left frames) g left at q → Steps f n (doing here (stmt_of a)) (steps_of (stmt_of a) + steps_left frames) g left at q
    other_as a call branch turn h =
        let low = a_step (stmt_of a) in
        then_steps (same_runs n (λ j. ap (λ r. going_on r (resume frames k)) (others (bodies k j) k c j a call branch turn))) (omega (arith, low)) h

  module _ {f g : Feed} (n : ℕ) (a : s.Stmt) {X : Type 0} {v : X → Configuration} where
    pub plain_stops : {w : StepHalt} → Does v f (run_stmt Bounded k a c) g (Err w) → Executes {X = Configuration} (λ c. c) f n (doing_plain here a) g n (Err (quit.Halts w))
    plain_stops h = first_stops n (λ j d. resume frames k j d) (λ j. plain k frames c a j) h

    pub plain_steps : {x : X} {y : ⊤} → IsWithinStmt a → IsReadyMachine here f → Does v f (run_stmt Bounded k a c) g (Ok x) → Steps f n (doing_plain here a) (1 + steps_left frames) g n (record { activation = k; configuration = v x; frames = frames }) (Ok y)
    plain_steps within h d =
        let r = h.ready in
        steps_to (first_goes n (λ j d. resume frames k j d) (λ j. plain k frames c a j) d)
        (record { formed = h.formed; ready = stays_ready (run_stmt_within k r.program r.old a c within (within_of r)) (run_stmt_shape Bounded k a c r.state.maps) r d; frames = h.frames })
        (λ same. omega arith)

  -- ---- a condition

  module _ {f g : Feed} (n : ℕ) (at : Pos) (e : t.Expr) (first second : s.Stmts) where
    pub condition_stops : {w : StepHalt} → Does {X = Bool} (λ b. b) f (ended (truth_in Bounded e c.state (scene k c at))) g (Err w) → Executes {X = Configuration} (λ c. c) f n (doing here (s.If at e first second)) g n (Err (quit.Halts w))
    condition_stops h = first_stops n (λ j holds. resume (Block (if holds then first else second) ∷ frames) k j c) (λ j. either k frames c at e first second j) h

    pub block_chosen : {holds : Bool} {block : s.Stmts} {above : List Frame} {y : ⊤} → Does (λ b. b) f (ended (truth_in Bounded e c.state (scene k c at))) g (Ok holds) → block ≡ (if holds then first else second) → above ≡ Block block ∷ frames →
        AreWithinStmts first → AreWithinStmts second → IsReadyMachine here g → Steps f n (doing here (s.If at e first second)) (2 + steps_in first + steps_in second + steps_left frames) g n (record { activation = k; configuration = c; frames = above }) (Ok y)
    block_chosen {holds = holds} {block = block} {above = above} d chosen more within other ready =
        steps_to (after (first_goes n (λ j holds. resume (Block (if holds then first else second) ∷ frames) k j c) (λ j. either k frames c at e first second j) d) (same_runs n (λ j. ap (λ fs. resume fs k j c) (sym all))))
        (pushed_ready all (by_within holds) ready) (λ same. omega (arith, ap steps_left all, by_steps holds))
      where
        all : above ≡ Block (if holds then first else second) ∷ frames
        all = more ∙ ap (λ b. Block b ∷ frames) chosen

        by_within : (holds : Bool) → AreWithinStmts (if holds then first else second)
        by_within true = within
        by_within false = other

        by_steps : (holds : Bool) → steps_in (if holds then first else second) ≤ steps_in first + steps_in second
        by_steps true = omega arith
        by_steps false = omega arith

  -- ---- a loop

  module _ (at : Pos) (guard : t.Expr) (invariants : List t.Assertion) (body : s.Stmts) (turn : Pos) (targets : List ℕ) where
    abbrev w : s.Loop
    w = s.loop at guard invariants body turn targets

    -- the invariants are asserted, before the loop and at the end of a turn
    module _ {f g : Feed} (n : ℕ) (from : Pos) where
      pub invariants_stop : {q : StepHalt} → Does {X = ⊤} (λ x. x) f (asserted invariants c.state (scene k c from)) g (Err q) → Executes {X = Configuration} (λ c. c) f n (turning_from here from w) g n (Err (quit.Halts q))
      invariants_stop h = assert_stops invariants c.state (scene k c from) (turning here w) (λ j. refl) n h

      pub invariants_hold : {X : Type 0} {h : Feed} {left most : ℕ} {there : Machine} {q : Result X Quit} {x : ⊤} → Does (λ x. x) f (asserted invariants c.state (scene k c from)) g (Ok x) →
          Steps g n (turning here w) most h left there q → Steps f n (turning_from here from w) most h left there q
      invariants_hold d i = then_steps (asserts invariants c.state (scene k c from) (turning here w) (λ j. refl) n d) (omega arith) i

    module _ {f h : Feed} (n : ℕ) {X : Type 0} {left most : ℕ} {there : Machine} {q : Result X Quit} where
      pub entered : Steps f n (turning_from here at w) most h left there q → Steps f n (doing here (s.While w)) most h left there q
      entered i = then_steps (same_runs n (loop_entered k frames c at guard invariants body turn targets)) (omega arith) i

      pub turned_on : Steps f n (turning_from here turn w) most h left there q → Steps f n (λ n. resume (Turn w ∷ frames) k n c) most h left there q
      turned_on i = then_steps (same_runs n (turn_ended k frames c at guard invariants body turn targets)) (omega arith) i

    module _ {f g : Feed} (n : ℕ) where
      pub guard_stops : {q : StepHalt} → Does {X = Bool} (λ b. b) f (ended (truth_in Bounded guard c.state (scene k c at))) g (Err q) → Executes {X = Configuration} (λ c. c) f n (turning here w) g n (Err (quit.Halts q))
      guard_stops h = first_stops n (turn_or_end k frames c at guard invariants body turn targets) (turn_next k frames c at guard invariants body turn targets) h

      module _ {holds : Bool} (guarded : Does (λ b. b) f (ended (truth_in Bounded guard c.state (scene k c at))) g (Ok holds)) where
        asked : Reaches f n (turning here w) g n (λ j. turn_or_end k frames c at guard invariants body turn targets j holds)
        asked = first_goes n (turn_or_end k frames c at guard invariants body turn targets) (turn_next k frames c at guard invariants body turn targets) guarded

        abbrev a_turn_then : ℕ → Run (Went Configuration)
        a_turn_then = a_turn k frames c at guard invariants body turn targets

        where_so : holds ≡ true → (j : ℕ) → turn_or_end k frames c at guard invariants body turn targets j holds ≡ beginning j a_turn_then
        where_so so j = ap (λ b. turn_or_end k frames c at guard invariants body turn targets j b) so

        pub loop_over : {y : ⊤} → holds ≡ false → IsReadyMachine here g → Steps f n (turning here w) (1 + steps_left frames) g n here (Ok y)
        loop_over not_so ready = steps_to (after asked (same_runs n (λ j. ap (λ b. turn_or_end k frames c at guard invariants body turn targets j b) not_so))) ready (λ same. omega arith)

        pub turn_spent : holds ≡ true → n ≡ zero → Executes {X = Configuration} (λ c. c) f n (turning here w) g n (Err quit.Spent)
        turn_spent so none = then_executes asked (nothing_left a_turn_then (where_so so) n none)

        pub turn_begun : {left most : ℕ} {above : List Frame} {y : ⊤} → holds ≡ true → n ≡ suc left → above ≡ Block body ∷ Turn w ∷ frames → IsWithinStmt (s.While w) → IsReadyMachine here g →
            Steps f n (turning here w) most g left (record { activation = k; configuration = c; frames = above }) (Ok y)
        turn_begun {left = left} {above = above} so more all within h =
            steps_to (after (after (subst (λ l. Reaches f n (turning here w) g l (λ j. turn_or_end k frames c at guard invariants body turn targets j holds)) more asked) (begins a_turn_then (where_so so) left)) (same_runs left (λ j. ap (λ fs. resume fs k j c) (sym all))))
            (record { formed = h.formed; ready = h.ready; frames = subst AreReady (sym all) (within.2, (within, h.frames)) })
            (λ same. absurd (omega (arith, same, more)))

  -- ---- a call

  module _ (at : Pos) (targets : List ℕ) (number : ℕ) (es : t.Exprs) where
    pub args_stop : {f g : Feed} (n : ℕ) {w : StepHalt} → Does {X = List Value} (λ vs. vs) f (ended (values Bounded es c.state (scene k c at))) g (Err w) → Executes {X = Configuration} (λ c. c) f n (doing here (s.Call at targets number es)) g n (Err (quit.Halts w))
    args_stop n h = first_stops n (to_callee k frames c at targets number es) (call_next k frames c at targets number es) h

    module _ {f g : Feed} (n : ℕ) {X : Type 0} {v : X → List Value} where
      module _ {x : X} (args : Does v f (ended (values Bounded es c.state (scene k c at))) g (Ok x)) where
        asks : Reaches f n (doing here (s.Call at targets number es)) g n (λ j. to_callee k frames c at targets number es j (v x))
        asks = first_goes n (to_callee k frames c at targets number es) (call_next k frames c at targets number es) args

        pub callee_stops : {Y : Type 0} {u : Y → Method} {q : StepHalt} → Does u g (ended (found (slice_get k.program.methods number))) g (Err q) → Executes {X = Configuration} (λ c. c) f n (doing here (s.Call at targets number es)) g n (Err (quit.Halts q))
        callee_stops h = then_executes asks (first_stops n (λ j callee. to_called k frames c at targets number es j (v x) callee) (λ j. refl) h)

        module _ (callee : Method) (found_there : is callee ≡ found (slice_get k.program.methods number)) where
          callee_is : (j : ℕ) → to_callee k frames c at targets number es j (v x) ≡ to_called k frames c at targets number es j (v x) callee
          callee_is j = ap (λ e. then_do (ended e) (to_called k frames c at targets number es j (v x))) (sym found_there) ∙ goes_then callee (to_called k frames c at targets number es j (v x))

          pub callee_runs : {Y : Type 0} {h : Feed} {left most : ℕ} {there : Machine} {q : Result Y Quit} (body : Body) → callee.body ≡ Some body → Steps g n (calling here at targets callee body (v x)) most h left there q → Steps f n (doing here (s.Call at targets number es)) most h left there q
          callee_runs body has i = then_steps (after asks (same_runs n (λ j. callee_is j ∙ ap (λ o. going_on (exec_called Bounded (bodies k j) k targets callee o (v x) at j c) (resume frames k)) has))) (omega arith) i

          pub callee_bare : {Y : Type 0} {h : Feed} {left most : ℕ} {there : Machine} {q : Result Y Quit} → callee.body ≡ None → Steps g n (calling_bare here at targets callee (v x)) most h left there q → Steps f n (doing here (s.Call at targets number es)) most h left there q
          callee_bare none i = then_steps (after asks (same_runs n (λ j. callee_is j ∙ ap (λ o. going_on (exec_called Bounded (bodies k j) k targets callee o (v x) at j c) (resume frames k)) none))) (omega arith) i

  module _ (at : Pos) (targets : List ℕ) (callee : Method) (args : List Value) {f g : Feed} (n : ℕ) {X : Type 0} {v : X → Configuration} where
    pub bare_stops : {w : StepHalt} → Does v f (called Bounded k targets callee args at c) g (Err w) → Executes {X = Configuration} (λ c. c) f n (calling_bare here at targets callee args) g n (Err (quit.Halts w))
    bare_stops h = first_stops n (λ j d. resume frames k j d) (bare_next k frames c at targets callee args) h

    pub bare_steps : {x : X} {y : ⊤} → IsWithinMethod callee → All IsWithinValue args → IsReadyMachine here f → Does v f (called Bounded k targets callee args at c) g (Ok x) →
        Steps f n (calling_bare here at targets callee args) (1 + steps_left frames) g n (record { activation = k; configuration = v x; frames = frames }) (Ok y)
    bare_steps within given h d =
        let r = h.ready in
        steps_to (first_goes n (λ j d. resume frames k j d) (bare_next k frames c at targets callee args) d)
        (record { formed = h.formed; ready = stays_ready (called_within k r.program r.old targets callee args at c within given (within_of r)) (called_shape Bounded k targets callee args at c r.state.maps) r d; frames = h.frames })
        (λ same. omega arith)

  -- ---- a body

  module _ (at : Pos) (targets : List ℕ) (callee : Method) (args : List Value) (body : Body) where
    abbrev begin_with : ℕ → List Value → Run (Went Configuration)
    begin_with j given = beginning j (a_body k frames c at targets callee args body given)

    module _ {f g : Feed} (n : ℕ) {X : Type 0} {v : X → List Value} where
      pub call_stops : {w : StepHalt} → Does v f (call_begun callee args (with_variables args (scene k c at)) c.state) g (Err w) → Executes {X = Configuration} (λ c. c) f n (calling here at targets callee body args) g n (Err (quit.Halts w))
      call_stops h = first_stops n begin_with (body_next k frames c at targets callee args body) h

      module _ {x : X} (begun : Does v f (call_begun callee args (with_variables args (scene k c at)) c.state) g (Ok x)) where
        pub call_spent : n ≡ zero → Executes {X = Configuration} (λ c. c) f n (calling here at targets callee body args) g n (Err quit.Spent)
        call_spent none = then_executes (first_goes n begin_with (body_next k frames c at targets callee args body) begun) (nothing_left (a_body k frames c at targets callee args body (v x)) (λ j. refl) n none)

        body_reached : (left : ℕ) → n ≡ suc left → Reaches f n (calling here at targets callee body args) g left (a_body k frames c at targets callee args body (v x))
        body_reached left more =
            after (subst (λ l. Reaches f n (calling here at targets callee body args) g l (λ j. begin_with j (v x))) more (first_goes n begin_with (body_next k frames c at targets callee args body) begun))
            (begins (a_body k frames c at targets callee args body (v x)) (λ j. refl) left)

        pub body_begun : {left most : ℕ} {vars : List Ty} {old : State} {store : List Value} {above : List Frame} {y : ⊤} → n ≡ suc left → vars ≡ callee.vars → old ≡ c.state → store ≡ first_store callee (v x) →
            above ≡ Block body.stmts ∷ End callee body.turn ∷ Return (caller k frames c at targets callee args body) ∷ frames → IsReadyBody k.program callee body → All IsWithinValue (v x) → IsReadyMachine here f →
            Steps f n (calling here at targets callee body args) most g left (record { activation = record { program = k.program; vars = vars; old = old }; configuration = record { store = store; state = c.state }; frames = above }) (Ok y)
        body_begun {left = left} {most = most} {vars = vars} {old = old} {store = store} {above = above} {y = y} more typed copied first all has within h =
            subst (λ there. Steps f n (calling here at targets callee body args) most g left there (Ok y)) as_it_is
            (steps_to (body_reached left more)
            (record {
              formed = h.formed;
              ready = entry_ready callee (v x) within (still_ready h.ready begun);
              frames = (body_within has, (has.method_within, (record { old = h.ready.old; store = h.ready.store }, h.frames)));
            })
            (λ same. absurd (omega (arith, same, more))))
          where
            as_it_is : ◌≡◌ {A = Machine} (record { activation = entry_of k.program callee (starts k frames c at targets callee args body (v x)); configuration = starts k frames c at targets callee args body (v x); frames = Block body.stmts ∷ End callee body.turn ∷ Return (caller k frames c at targets callee args body) ∷ frames })
                record { activation = record { program = k.program; vars = vars; old = old }; configuration = record { store = store; state = c.state }; frames = above }
            as_it_is i = record { activation = record { program = k.program; vars = sym typed i; old = sym copied i }; configuration = record { store = sym first i; state = c.state }; frames = sym all i }

  -- ---- the end of a body, and its caller

  module _ (meth : Method) (turn : Pos) {f g : Feed} (n : ℕ) where
    pub post_stops : {w : StepHalt} → Does {X = ⊤} (λ x. x) f (asserted meth.postconditions c.state (scene k c turn)) g (Err w) → Executes {X = Configuration} (λ c. c) f n (λ n. resume (End meth turn ∷ frames) k n c) g n (Err (quit.Halts w))
    post_stops h = assert_stops meth.postconditions c.state (scene k c turn) (λ n. resume frames k n c) (λ n. refl) n h

    pub post_steps : {x y : ⊤} → IsReadyMachine here f → Does (λ x. x) f (asserted meth.postconditions c.state (scene k c turn)) g (Ok x) → Steps f n (λ n. resume (End meth turn ∷ frames) k n c) (1 + steps_left frames) g n here (Ok y)
    post_steps ready h = steps_to (asserts meth.postconditions c.state (scene k c turn) (λ n. resume frames k n c) (λ n. refl) n h) (after_ready h ready) (λ same. omega arith)

  pub returned_is : (from : Caller) {values store last : List Value} → values ≡ stored store from.targets (returned from.callee last) → store ≡ from.store → last ≡ c.store →
      record { activation = activation_at k from; configuration = record { store = values; state = c.state }; frames = frames } ≡ returned_to here from
  returned_is from is own left = ap (λ vs. record { activation = activation_at k from; configuration = record { store = vs; state = c.state }; frames = frames }) (is ∙ (λ i. stored (own i) from.targets (returned from.callee (left i))))

  pub caller_steps : {f : Feed} (n : ℕ) (from : Caller) {at : Machine} {y : ⊤} → at ≡ returned_to here from → IsReadyFrame (Return from) → IsReadyMachine here f → Steps f n (λ n. resume (Return from ∷ frames) k n c) (1 + steps_left frames) f n at (Ok y)
  caller_steps {f = f} n from {y = y} is ok h =
      subst (λ at. Steps f n (λ n. resume (Return from ∷ frames) k n c) (1 + steps_left frames) f n at (Ok y)) (sym is)
      (steps_to (same_runs n (λ j. refl))
      (record {
        formed = h.formed;
        ready = returned_ready {k = record { program = k.program; vars = from.vars; old = from.old }} {c = record { store = from.store; state = c.state }} from.targets from.callee refl
            (record { program = h.ready.program; old = ok.old; store = ok.store; state = h.ready.state }) h.ready;
        frames = h.frames;
      })
      (λ same. omega arith))

-- ---- the stack whose top was taken

module _ (k : Activation) (c : Configuration) (xs ys : List frame.Frame) (x : frame.Frame) (popped : ys ≡ xs ++ x ∷ []) where
  abbrev before_it : Machine
  before_it = record { activation = k; configuration = c; frames = frames_over ys [] }

  whole : frames_over ys [] ≡ frame_of x ∷ frames_over xs []
  whole = pushed xs ys x popped

  pub top_ready : {f : Feed} → IsReadyMachine before_it f → IsReadyFrame (frame_of x)
  top_ready h = (subst AreReady whole h.frames).0

  pub below_ready : {f : Feed} → IsReadyMachine before_it f → IsReadyMachine (record { activation = k; configuration = c; frames = frames_over xs [] }) f
  below_ready h = record { formed = h.formed; ready = h.ready; frames = (subst AreReady whole h.frames).1 }

  pub at_top : {f g : Feed} {r : ℕ → Run (Went Configuration)} {n left : ℕ} → Reaches f n r g left (going before_it) → Reaches f n r g left (λ n. resume (frame_of x ∷ frames_over xs []) k n c)
  at_top {left = left} h = after h (same_runs left (λ j. ap (λ fs. resume fs k j c) whole))

  pub fewer_left : (after : ℕ) → after < frame_steps (frame_of x) + steps_left (frames_over xs []) → after < steps_left (frames_over ys [])
  fewer_left after lt = let all = ap steps_left whole in omega (arith, lt, all)

pub none_over : (k : Activation) (c : Configuration) (xs ys : List frame.Frame) {f g : Feed} {r : ℕ → Run (Went Configuration)} {n left : ℕ} {P : Bool → Type 0} {b : Bool} → length xs ≡ zero → ys ≡ xs ++ [] → Reaches f n r g left (going (record { activation = k; configuration = c; frames = frames_over ys [] })) →
    IsReadyMachine (record { activation = k; configuration = c; frames = frames_over ys [] }) g → (frames_over xs [] ≡ [] → P b) → Advances f n r g left (record { activation = k; configuration = c; frames = frames_over xs [] }) P (Ok b)
none_over k c xs ys {g = g} {left = left} none all h ready more =
    let same = all ∙ append-nil xs in
    steps_to (after h (same_runs left (λ j. ap (λ ys. resume (frames_over ys []) k j c) same))) (subst (λ ys. IsReadyMachine (record { activation = k; configuration = c; frames = frames_over ys [] }) g) same ready) (more (ap (λ xs. frames_over xs []) (no_items xs none)))

pub begun_more : (budget left : ℕ) (at : Machine) (more : Bool) → more ≡ true → HasBegun budget left at more → left < budget
begun_more budget left at more so h = subst (HasBegun budget left at) so h

pub none_more : (budget left : ℕ) (at : Machine) (more : Bool) → more ≡ false → HasBegun budget left at more → at.frames ≡ []
none_more budget left at more so h = subst (HasBegun budget left at) so h
