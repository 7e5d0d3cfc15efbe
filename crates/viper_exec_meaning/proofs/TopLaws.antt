-- Where no unit fails, no execution does: with the bound an execution that is not Over is the one without it, and the units are
-- the methods.
use Rattle.std.proofs.Common.{◌≡◌, sym, ap, ◌∙◌, subst, arith, ◌+◌, ℕ, zero, suc, Option, Some, None, List, [], ◌∷◌, ◌++◌, length, All, Contains, slice_get, take}
use Rattle.std.proofs.lemmas.List.{append-nil}
use Rattle.std.proofs.lemmas.Option.{slice_get_within}
use Rattle.vb_base.specs.declared.labels.Label.{Label}
use Rattle.vb_base.specs.declared.places.Pos.{Pos}
use Rattle.vb_value.specs.Bound.{Bound, Bounded, Unbounded}
use Rattle.vb_value.specs.declared.values.Value.{Value}
use Rattle.viper_core.specs.declared.programs.Unit as unit
use Rattle.viper_core.specs.declared.programs.Unit.TheVariants as u
use Rattle.viper_core.specs.Expr as t
use Rattle.viper_core.specs.Formed.{methods_among, IsFormed}
use Rattle.viper_core.specs.Program.{Program, Method, Body}
use Rattle.viper_core.specs.Stmt as s
use Rattle.viper_core.proofs.UnitLaws.{lt-below}
use Rattle.viper_state.specs.Choice.{Choice}
use Rattle.viper_state.specs.Event.{Event}
use Rattle.viper_state.specs.Fits.{FitsOpening, FitsChoice}
use Rattle.viper_state.specs.Run.{Opening, Scene, with_variables}
use Rattle.viper_state.specs.State.{State, empty_state}
use Rattle.viper_meaning.specs.ComparedRuns.{is_over}
use Rattle.viper_meaning.specs.Run.{Run, Fails, ran, on}
use Rattle.viper_meaning.specs.Statements.{Configuration, Activation, scene}
use Rattle.viper_meaning.specs.Units.{first_store, first_scene, run_of_unit, start_method, unit_run}
use Rattle.viper_meaning.proofs.BoundLaws.{found_bounded, truth_bounded, value_bounded, values_bounded}
use Rattle.viper_meaning.proofs.RunBoundLaws.{IsBoundedRun, goes_never_over, evaluating_bounded, then_do_bounded, if_run_bounded, goes_bounded, small_run}
use Rattle.viper_meaning.proofs.StatementBoundLaws.{taking_values_bounded, produce_all_bounded, consume_all_bounded, called_bounded, run_stmt_bounded, unit_run_bounded}
use Rattle.viper_meaning.proofs.StatementFitsLaws.{method_types_are}
use Rattle.viper_meaning.proofs.TakenLaws.{passed}
use Rattle.viper_exec_meaning.specs.Execution.{Went, Still, Spent, with_went, going_on, keeping, beginning, asserting, Bodies, returns_in, exec_called, exec_turns, exec_stmt, exec_block, exec_body, bodies_within, exec}
use Rattle.viper_exec_meaning.specs.Frame.{IsFramedProgram, NoUnitFails, FramesHold}
use Rattle.viper_exec_meaning.proofs.AsksLaws.{exec_asks}
use Rattle.viper_exec_meaning.proofs.CallLaws.{UnitsSafe}
use Rattle.viper_exec_meaning.proofs.ExecLaws.{exec_safe}
use Rattle.viper_exec_meaning.proofs.SafeLaws.{never_fails, safe_on}
use Rattle.viper_exec_meaning.proofs.StepLaws.{safe_found}

-- ---- within the bound

going_bounded : {X Y : Type 0} {r w : Run (Went X)} {go to : ℕ → X → Run (Went Y)} → IsBoundedRun r w → ((n : ℕ) (x : X) → IsBoundedRun (go n x) (to n x)) → IsBoundedRun (going_on r go) (going_on w to)
going_bounded {X} {Y} {go = go} {to = to} h g = then_do_bounded h by
  where
    by : (x : Went X) → IsBoundedRun (with_went x go) (with_went x to)
    by (Still n x) = g n x
    by Spent = goes_bounded Spent

keeping_bounded : {X : Type 0} (n : ℕ) {r w : Run X} → IsBoundedRun r w → IsBoundedRun (keeping n r) (keeping n w)
keeping_bounded n h = then_do_bounded h (λ x. goes_bounded (Still n x))

beginning_bounded : {X : Type 0} (n : ℕ) {go to : ℕ → Run (Went X)} → ((k : ℕ) → IsBoundedRun (go k) (to k)) → IsBoundedRun (beginning n go) (beginning n to)
beginning_bounded zero h = goes_bounded Spent
beginning_bounded (suc n) h = h n

asserting_bounded : {X : Type 0} (clauses : List t.Assertion) (s : State) (sc : Scene) {go to : Run X} → IsBoundedRun go to → IsBoundedRun (asserting Bounded clauses s sc go) (asserting Unbounded clauses s sc to)
asserting_bounded clauses s sc h = then_do_bounded (consume_all_bounded clauses s sc s) (λ left. h)

abbrev AreBounded : Bodies → Bodies → Type 0
AreBounded some all = (m : Method) (body : Body) (given : List Value) (old : State) (n : ℕ) → IsBoundedRun (some m body given old n) (all m body given old n)

module _ (some all : Bodies) (bodies : AreBounded some all) (k : Activation) where
  called_within_bound : (targets : List ℕ) (callee : Method) (o : Option Body) (args : List Value) (at : Pos) (n : ℕ) (c : Configuration) →
      IsBoundedRun (exec_called Bounded some k targets callee o args at n c) (exec_called Unbounded all k targets callee o args at n c)
  called_within_bound targets callee None args at n c = keeping_bounded n (called_bounded k targets callee args at c)
  called_within_bound targets callee (Some body) args at n c =
      asserting_bounded callee.preconditions c.state (with_variables args (scene k c at)) (then_do_bounded (taking_values_bounded callee.vars (returns_in callee)) (λ vs. beginning_bounded n (λ n.
      going_bounded (bodies callee body (args ++ vs) c.state n) (λ n d. goes_bounded _))))

  turns_bounded : (at : Pos) (guard : t.Expr) (invariants : List t.Assertion) {body same : ℕ → Configuration → Run (Went Configuration)} (turn : Pos) → ((n : ℕ) (c : Configuration) → IsBoundedRun (body n c) (same n c)) → (most n : ℕ) (c : Configuration) →
      IsBoundedRun (exec_turns Bounded k at guard invariants body turn most n c) (exec_turns Unbounded k at guard invariants same turn most n c)
  turns_bounded at guard invariants turn h zero n c = evaluating_bounded (truth_bounded (value_bounded guard c.state (scene k c at))) (λ holds. if_run_bounded holds (goes_bounded Spent) (goes_bounded (Still n c)))
  turns_bounded at guard invariants turn h (suc most) n c =
      evaluating_bounded (truth_bounded (value_bounded guard c.state (scene k c at))) (λ holds. if_run_bounded holds
      (beginning_bounded n (λ n. going_bounded (h n c) (λ n d. asserting_bounded invariants d.state (scene k d turn) (turns_bounded at guard invariants turn h most n d)))) (goes_bounded (Still n c)))

  mutual
    exec_stmt_bounded : (a : s.Stmt) (n : ℕ) (c : Configuration) → IsBoundedRun (exec_stmt Bounded some k a n c) (exec_stmt Unbounded all k a n c)
    exec_stmt_bounded (s.Call at targets m args) n c =
        evaluating_bounded (values_bounded args c.state (scene k c at)) (λ vs. evaluating_bounded (found_bounded (slice_get k.program.methods m)) (λ callee. called_within_bound targets callee callee.body vs at n c))
    exec_stmt_bounded (s.If at e first second) n c =
        evaluating_bounded (truth_bounded (value_bounded e c.state (scene k c at))) (λ holds. if_run_bounded holds (exec_block_bounded first n c) (exec_block_bounded second n c))
    exec_stmt_bounded (s.While (s.loop at guard invariants body turn targets)) n c =
        asserting_bounded invariants c.state (scene k c at) (turns_bounded at guard invariants turn (λ n d. exec_block_bounded body n d) n n c)
    exec_stmt_bounded (s.Var at x e) n c = keeping_bounded n (run_stmt_bounded k (s.Var at x e) c)
    exec_stmt_bounded (s.Assign at x e) n c = keeping_bounded n (run_stmt_bounded k (s.Assign at x e) c)
    exec_stmt_bounded (s.Write at e field place d) n c = keeping_bounded n (run_stmt_bounded k (s.Write at e field place d) c)
    exec_stmt_bounded (s.New at x fields refs) n c = keeping_bounded n (run_stmt_bounded k (s.New at x fields refs) c)
    exec_stmt_bounded (s.Inhale at a) n c = keeping_bounded n (run_stmt_bounded k (s.Inhale at a) c)
    exec_stmt_bounded (s.Exhale at a) n c = keeping_bounded n (run_stmt_bounded k (s.Exhale at a) c)
    exec_stmt_bounded (s.Assert at a) n c = keeping_bounded n (run_stmt_bounded k (s.Assert at a) c)
    exec_stmt_bounded (s.Fold f) n c = keeping_bounded n (run_stmt_bounded k (s.Fold f) c)
    exec_stmt_bounded (s.Unfold f) n c = keeping_bounded n (run_stmt_bounded k (s.Unfold f) c)

    exec_block_bounded : (block : s.Stmts) (n : ℕ) (c : Configuration) → IsBoundedRun (exec_block Bounded some k block n c) (exec_block Unbounded all k block n c)
    exec_block_bounded s.skip n c = goes_bounded (Still n c)
    exec_block_bounded (s.next a rest) n c = going_bounded (exec_stmt_bounded a n c) (λ n d. exec_block_bounded rest n d)

exec_body_bounded : (program : Program) (some all : Bodies) → AreBounded some all → AreBounded (exec_body Bounded some program) (exec_body Unbounded all program)
exec_body_bounded program some all bodies m body given old n =
    let k : Activation = record { program = program; vars = m.vars; old = old } in
    going_bounded (exec_block_bounded some all bodies k body.stmts n (record { store = first_store m given; state = old })) (λ n d. asserting_bounded m.postconditions d.state (scene k d body.turn) (goes_bounded (Still n d)))

bodies_bounded : (program : Program) (depth : ℕ) → AreBounded (bodies_within Bounded program depth) (bodies_within Unbounded program depth)
bodies_bounded program zero m body given old n = goes_bounded Spent
bodies_bounded program (suc depth) m body given old n = exec_body_bounded program (bodies_within Bounded program depth) (bodies_within Unbounded program depth) (bodies_bounded program depth) m body given old n

-- an execution within the bound is the one without it, or Over
pub exec_bounded : (program : Program) (m : Method) (body : Body) (o : Opening) (n : ℕ) → IsBoundedRun (exec Bounded program m body o n) (exec Unbounded program m body o n)
exec_bounded program m body o n =
    then_do_bounded (produce_all_bounded m.preconditions (first_scene program m o) (empty_state program.layout o.memo)) (λ s.
    going_bounded (exec_body_bounded program (bodies_within Bounded program n) (bodies_within Unbounded program n) (bodies_bounded program n) m body o.store s n) (λ n d. goes_bounded (Still n d.state)))

-- ---- units

method_unit : (units : List unit.Unit) (k : ℕ) → Contains (methods_among units) k → (n : ℕ) × (slice_get units n ≡ Some (u.Method k))
method_unit [] k (i, within, is) = absurd (omega (arith, within))
method_unit (u.Method j ∷ units) k (zero, within, is) = (0, ap (λ x. Some (u.Method x)) is)
method_unit (u.Method j ∷ units) k (suc i, within, is) = let later = method_unit units k (i, omega (arith, within), is) in (suc later.0, later.1)
method_unit (u.Predicate j ∷ units) k c = let later = method_unit units k c in (suc later.0, later.1)

units_safe : (program : Program) → IsFormed program → NoUnitFails program → UnitsSafe program
units_safe program formed none k m there o opens =
    let listed = method_unit program.units k (subst (λ xs. Contains xs k) (sym formed.typed.units.methods) (lt-below (length program.methods) k (slice_get_within program.methods k m there))) in
    let safe = safe_on (unit_run Unbounded program listed.0 o) (goes_never_over (unit_run_bounded program listed.0 o)) (λ choices fit events l left e. none listed.0 l (record {
      opening = o;
      opens = record { unit = u.Method k; types = take (m.params + m.returns) m.vars; exists = listed.1; typed = method_types_are Unbounded program formed k m there; fits = opens };
      choices = choices;
      fit = fit;
      events = events;
      left = left;
      fails = e;
    })) in
    let run = safe_found program.layout (slice_get program.units listed.0) (λ w. run_of_unit Unbounded program w o) (u.Method k) listed.1 safe in
    safe_found program.layout (slice_get program.methods k) (λ m. start_method Unbounded program m o) m there run

-- ---- the frame

-- on choices that fit the program
module _ (program : Program) (formed : IsFormed program) (framed : IsFramedProgram program) (none : NoUnitFails program) (k : ℕ) (m : Method) (body : Body)
    (there : slice_get program.methods k ≡ Some m) (has : m.body ≡ Some body) (o : Opening) (opens : FitsOpening program.layout (take (m.params + m.returns) m.vars) o) (n : ℕ) where
  never_on_fitting : (b : Bound) (choices : List Choice) → All (FitsChoice program.layout) choices → (events : List Event) (l : Label) (left : List Choice) →
      on (exec b program m body o n) choices ≡ ran events (Fails l) left → ⊥
  never_on_fitting Unbounded choices fit events l left e =
      never_fails (exec_safe program formed framed (units_safe program formed none) k m body there has o opens n) choices fit events l left e
  never_on_fitting Bounded choices fit events l left e =
      let same = small_run (exec_bounded program m body o n) choices (ap is_over e) in
      never_fails (exec_safe program formed framed (units_safe program formed none) k m body there has o opens n) choices fit events l left (sym same ∙ e)

-- those that it took fit, and on these alone it ends alike
pub frames_hold : FramesHold
frames_hold b program formed framed none k m body there has o opens choices reduced n events l left e =
    let h = passed program.layout (exec b program m body o n) (exec_asks b program m body o n) choices events (Fails l) left e tt reduced in
    never_on_fitting program formed framed none k m body there has o opens n b h.0.taken h.1 events l []
    (subst (λ cs. on (exec b program m body o n) cs ≡ ran events (Fails l) []) (append-nil h.0.taken) (h.0.alike []))
