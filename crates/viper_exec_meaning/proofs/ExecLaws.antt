-- Whole executions go on as the modular runs of their methods: where no unit fails, no execution does. Numbers have no bound.
use Rattle.std.proofs.Common.{◌≡◌, refl, sym, ◌∙◌, subst, arith, ◌<◌, ◌+◌, ℕ, zero, suc, Bool, true, false, Option, Some, None, List, [], length, All, slice_get, take, if◌then◌else◌}
use Rattle.std.specs.Prelude.{⊤}
use Rattle.std.proofs.lemmas.List.{length-take-le}
use Rattle.std.proofs.lemmas.Slice.Zip.{AllZip-long}
use Rattle.lemmas.proofs.Lists.{at_item, front_at}
use Rattle.vb_base.specs.declared.places.Pos.{Pos}
use Rattle.vb_value.specs.Bound.{Unbounded}
use Rattle.vb_value.specs.declared.values.Ty.TheVariants as ty
use Rattle.vb_value.specs.declared.values.Value.{Value}
use Rattle.viper_core.specs.Expr as t
use Rattle.viper_core.specs.Formed.{precondition_context, postcondition_context, method_frame, method_scope, IsFormed}
use Rattle.viper_core.specs.Part.{IsPartStmt, ArePartStmts}
use Rattle.viper_core.specs.Program.{Program, Method, Body}
use Rattle.viper_core.specs.Scope.{Scope, scope_after, stmts_scope, after_block, after_targets}
use Rattle.viper_core.specs.Stmt as s
use Rattle.viper_core.specs.Typing.{HasType, HaveTypes, IsAssertion, MethodContext, inside, Receive, params_of, returns_of, IsStmt, calls, loops}
use Rattle.viper_core.proofs.FormedLaws.{at_some, method_of_typed}
use Rattle.viper_core.proofs.PartLaws.{stmts_parts}
use Rattle.viper_core.proofs.ScopeLaws.{later-stmts_scope}
use Rattle.viper_core.proofs.StmtParts.{first_part, rest_part, condition_part, then_part, else_part, turn_part}
use Rattle.viper_core.proofs.UnitLaws.{lt-below}
use Rattle.viper_state.specs.Choice.{Choice}
use Rattle.viper_state.specs.Fits.{FitsValue, FitsStore, FitsState, FitsScene, FitsOpening, FitsChoice}
use Rattle.viper_state.specs.Run.{Opening, Scene}
use Rattle.viper_state.specs.State.{State, empty_state}
use Rattle.viper_state.specs.Within.{IsNonnegative}
use Rattle.viper_state.proofs.EachLaws.{empty_state_nonnegative}
use Rattle.viper_state.proofs.FitsLaws.{empty_state_fits}
use Rattle.viper_meaning.specs.Ends.{found}
use Rattle.viper_meaning.specs.HeldWhole.{HoldsAtMostWhole}
use Rattle.viper_meaning.specs.Kept.{IsAny}
use Rattle.viper_meaning.specs.KeptRuns.{KeepsRun}
use Rattle.viper_meaning.specs.Run.{Run, evaluating}
use Rattle.viper_meaning.specs.Statements.{Configuration, Activation, scene, called, consume_all, run_stmt, run_block}
use Rattle.viper_meaning.specs.Units.{first_store, first_scene, begin_method, run_body, run_method}
use Rattle.viper_meaning.specs.Value.{values, truth_in}
use Rattle.viper_meaning.proofs.ChangeLaws as change
use Rattle.viper_meaning.proofs.HeldLaws.{near_self}
use Rattle.viper_meaning.proofs.MoreLaws.{typed_values_two, full_where_fits}
use Rattle.viper_meaning.proofs.NearLaws.{Close}
use Rattle.viper_meaning.proofs.StateKeptLaws.{produce_all_any}
use Rattle.viper_meaning.proofs.StatementFitsLaws.{first_fits, produce_all_fits}
use Rattle.viper_meaning.proofs.StatementSignLaws.{sign_kept}
use Rattle.viper_meaning.proofs.TypedLaws.{keeps, values_typed}
use Rattle.viper_meaning.proofs.UnderLaws.{Rest, nobody, under_close, close_under}
use Rattle.viper_meaning.proofs.WholeLaws.{empty_whole, whole_kept}
use Rattle.viper_exec_meaning.specs.Execution.{Bodies, keeping, exec_called, exec_stmt, exec_block, exec_body, bodies_within, exec}
use Rattle.viper_exec_meaning.specs.Frame.{IsFramedStmt, AreFramedStmts, IsFramedMethod, IsFramedBody, IsFramedProgram}
use Rattle.viper_exec_meaning.proofs.AssembleLaws.{Stands, simple_two, called_two}
use Rattle.viper_exec_meaning.proofs.AssertLaws.{asserted, Result, narrower, narrower_result, scenes_stand}
use Rattle.viper_exec_meaning.proofs.CallLaws.{BodiesSafe, UnitsSafe, params_few, body_runs, call_safe}
use Rattle.viper_exec_meaning.proofs.LoopLaws.{loop_safe}
use Rattle.viper_exec_meaning.proofs.SafeLaws.{Safely, goes_safe, before_safe, evaluating_safe, then_safe, weaker_safe, first_evaluated, first_safe, safe_goes, agrees_safe, leads_safe}
use Rattle.viper_exec_meaning.proofs.StepLaws.{EndsIn, going_safe, keeping_safe, ends_weaker, keep_end, keep_safe, each_kept, safe_found}
use Rattle.viper_exec_meaning.proofs.StmtLaws.{from, IsSimple}
use Rattle.viper_exec_meaning.proofs.StoreLaws.{params_unassigned}
use Rattle.viper_exec_meaning.proofs.TwoLaws.{truth_two}

-- goes on as the test of both says
branch_safe : {X Y : Type 0} {C : Choice → Type 0} {P : X → Type 0} {Q : Y → Type 0} {r u : Run X} {w z : Run Y} (holds : Bool) → (Safely C P r → Safely C Q w) → (Safely C P u → Safely C Q z) → Safely C P (if holds then r else u) → Safely C Q (if holds then w else z)
branch_safe true f g h = f h
branch_safe false f g h = g h

-- what is found goes on
found_goes : {K X : Type 0} {C : Choice → Type 0} {P : X → Type 0} (o : Option K) (go : K → Run X) (k : K) → o ≡ Some k → Safely C P (go k) → Safely C P (evaluating (found o) go)
found_goes {C = C} {P = P} o go k e h = subst (λ z. Safely C P (evaluating (found z) go)) (sym e) (before_safe [] h)

module _ (program : Program) (formed : IsFormed program) (framed : IsFramedProgram program) (units : UnitsSafe program) where
  abbrev Safe : {X : Type 0} → (X → Type 0) → Run X → Type 0
  Safe P r = Safely (FitsChoice program.layout) P r

  module _ (bodies : Bodies) (safe : BodiesSafe program bodies) (caller : Method) (older old : State) (olds : Close older old) (older_fits : FitsState program.layout older) (old_fits : FitsState program.layout old) where
    abbrev own : MethodContext
    own = method_frame program caller

    -- ---- statements that begin no turn and no body

    simple_safe : (a : s.Stmt) → IsSimple a → (F : Rest) (P : Configuration → Type 0) (sc : Scope) (c d : Configuration) (n : ℕ) → IsStmt own sc a → IsFramedStmt a → Stands F own sc c d → Safe P (run_stmt Unbounded (from own older) a c) →
        Safe (EndsIn (Result F own (scope_after sc a) P)) (keeping n (run_stmt Unbounded (from own old) a d))
    simple_safe a simple F P sc c d n typed frame stands h =
        keeping_safe n (weaker_safe (λ x p. record { small = p.0; goes = p.1; stands = p.2 }) (leads_safe (simple_two own formed older old olds older_fits old_fits F sc a c d typed frame simple stands) h))

    -- ---- calls

    called_safe : (F : Rest) (P : Configuration → Type 0) (sc : Scope) (targets : List ℕ) (k : ℕ) (callee : Method) (vs : List Value) (at : Pos) (c d : Configuration) (n : ℕ) → slice_get program.methods k ≡ Some callee → FitsStore (params_of callee) vs →
        Receive own sc targets (returns_of callee) → Stands F own sc c d → Safe P (called Unbounded (from own older) targets callee vs at c) → (o : Option Body) → callee.body ≡ o →
        Safe (EndsIn (Result F own (after_targets sc targets) P)) (exec_called Unbounded bodies (from own old) targets callee o vs at n d)
    called_safe F P sc targets k callee vs at c d n there fit receive stands h None has =
        keeping_safe n (weaker_safe (λ x p. record { small = p.0; goes = p.1; stands = p.2 })
        (leads_safe (called_two own formed older old olds older_fits old_fits F sc targets k callee vs at c d there fit receive (at_item IsFramedMethod program.methods framed.methods k callee there).preconditions stands) h))
    called_safe F P sc targets k callee vs at c d n there fit receive stands h (Some body) has =
        call_safe program formed units k callee body there has vs fit caller older old olds older_fits sc targets receive (at_item IsFramedMethod program.methods framed.methods k callee there).preconditions at F P c d stands bodies safe n h

    arguments_safe : (F : Rest) (P : Configuration → Type 0) (sc : Scope) (targets : List ℕ) (k : ℕ) (callee : Method) (args : t.Exprs) (at : Pos) (c d : Configuration) (n : ℕ) → slice_get program.methods k ≡ Some callee → HaveTypes (inside own sc) args (params_of callee) →
        Receive own sc targets (returns_of callee) → Stands F own sc c d → Safe P (run_stmt Unbounded (from own older) (s.Call at targets k args) c) →
        Safe (EndsIn (Result F own (after_targets sc targets) P)) (exec_stmt Unbounded bodies (from own old) (s.Call at targets k args) n d)
    arguments_safe F P sc targets k callee args at c d n there typed receive stands h =
        let sa : Scene = scene (from own older) c at in
        let sd : Scene = scene (from own old) d at in
        let go : List Value → Method → Run Configuration = λ vs callee. called Unbounded (from own older) targets callee vs at c in
        let kept = keeps (values_typed Unbounded {B = ⊤} (inside own sc) formed args (params_of callee) c.state sa typed tt stands.less.state (record { store = stands.less.store; old = older_fits })) in
        let small = keep_end kept (first_evaluated (values Unbounded args c.state sa) (λ vs. evaluating (found (slice_get program.methods k)) (go vs)) h) in
        evaluating_safe (agrees_safe (typed_values_two F (inside own sc) formed.typed c.state d.state sa sd stands.under (scenes_stand older old olds older_fits stands at at) typed) small) (λ ws p.
        let fit = subst (FitsStore (params_of callee)) p.2 p.1.1 in
        let goes_on = subst (λ vs. Safe P (evaluating (found (slice_get program.methods k)) (go vs))) p.2 p.1.0 in
        found_goes (slice_get program.methods k) (λ callee. exec_called Unbounded bodies (from own old) targets callee callee.body ws at n d) callee there
        (called_safe F P sc targets k callee ws at c d n there fit receive stands (safe_found program.layout (slice_get program.methods k) (go ws) callee there goes_on) callee.body refl))

    -- ---- all statements

    abbrev BranchGoes : (b : s.Stmts) → Rest → (Configuration → Type 0) → Scope → Configuration → Configuration → ℕ → Type 0
    BranchGoes block F P sc c d n = Safe P (run_block Unbounded (from own older) block c) → Safe (EndsIn (Result F own sc P)) (exec_block Unbounded bodies (from own old) block n d)

    if_stmt_safe : (F : Rest) (P : Configuration → Type 0) (sc : Scope) (at : Pos) (e : t.Expr) (first second : s.Stmts) (c d : Configuration) (n : ℕ) → HasType (inside own sc) e ty.Bool → Stands F own sc c d →
        BranchGoes first F P sc c d n → BranchGoes second F P sc c d n → Safe P (run_stmt Unbounded (from own older) (s.If at e first second) c) →
        Safe (EndsIn (Result F own sc P)) (exec_stmt Unbounded bodies (from own old) (s.If at e first second) n d)
    if_stmt_safe F P sc at e first second c d n typed stands f g h =
        let sa : Scene = scene (from own older) c at in
        let sd : Scene = scene (from own old) d at in
        let small = first_evaluated (truth_in Unbounded e c.state sa) (λ holds. if holds then run_block Unbounded (from own older) first c else run_block Unbounded (from own older) second c) h in
        evaluating_safe (agrees_safe (truth_two F (inside own sc) formed.typed c.state d.state sa sd stands.under (scenes_stand older old olds older_fits stands at at) typed) small) (λ holds p.
        branch_safe holds f g (subst (λ b. Safe P (if b then run_block Unbounded (from own older) first c else run_block Unbounded (from own older) second c)) p.2 p.1))

    mutual
      pub exec_stmt_safe : (a : s.Stmt) (F : Rest) (P : Configuration → Type 0) (sc : Scope) (c d : Configuration) (n : ℕ) → IsPartStmt own sc a → IsFramedStmt a → Stands F own sc c d → Safe P (run_stmt Unbounded (from own older) a c) →
          Safe (EndsIn (Result F own (scope_after sc a) P)) (exec_stmt Unbounded bodies (from own old) a n d)
      exec_stmt_safe (s.Var at x e) F P sc c d n part frame stands h = simple_safe (s.Var at x e) tt F P sc c d n part.typed frame stands h
      exec_stmt_safe (s.Assign at x e) F P sc c d n part frame stands h = simple_safe (s.Assign at x e) tt F P sc c d n part.typed frame stands h
      exec_stmt_safe (s.Write at e f place i) F P sc c d n part frame stands h = simple_safe (s.Write at e f place i) tt F P sc c d n part.typed frame stands h
      exec_stmt_safe (s.New at x fields refs) F P sc c d n part frame stands h = simple_safe (s.New at x fields refs) tt F P sc c d n part.typed frame stands h
      exec_stmt_safe (s.Inhale at i) F P sc c d n part frame stands h = absurd frame
      exec_stmt_safe (s.Exhale at i) F P sc c d n part frame stands h = simple_safe (s.Exhale at i) tt F P sc c d n part.typed frame stands h
      exec_stmt_safe (s.Assert at i) F P sc c d n part frame stands h = simple_safe (s.Assert at i) tt F P sc c d n part.typed frame stands h
      exec_stmt_safe (s.Fold f) F P sc c d n part frame stands h = simple_safe (s.Fold f) tt F P sc c d n part.typed frame stands h
      exec_stmt_safe (s.Unfold f) F P sc c d n part frame stands h = simple_safe (s.Unfold f) tt F P sc c d n part.typed frame stands h
      exec_stmt_safe (s.Call at targets k args) F P sc c d n part frame stands h = by_typing part.typed
        where
          by_typing : IsStmt own sc (s.Call at targets k args) → Safe (EndsIn (Result F own (after_targets sc targets) P)) (exec_stmt Unbounded bodies (from own old) (s.Call at targets k args) n d)
          by_typing (calls callee there i j) = arguments_safe F P sc targets k callee args at c d n there i j stands h
      exec_stmt_safe (s.If at e first second) F P sc c d n part frame stands h =
          let middle : Scope = after_block sc (stmts_scope sc first) in
          ends_weaker (λ x r. narrower_result (λ y i. i) r)
          (if_stmt_safe F P sc at e first second c d n (condition_part part).typed stands
          (λ g. ends_weaker (λ x r. narrower_result (later-stmts_scope sc first) r) (exec_block_safe first F P sc c d n (then_part part) frame.0 stands g))
          (λ g. ends_weaker (λ x r. narrower_result (later-stmts_scope middle second) r) (exec_block_safe second F P middle c d n (else_part part) frame.1 (narrower (λ y i. i) stands) g)) h)
      exec_stmt_safe (s.While (s.loop at guard invariants block turn targets)) F P sc c d n part frame stands h =
          ends_weaker (λ x r. narrower_result (λ y i. i) r)
          (loop_safe own formed older old olds older_fits sc at guard invariants block turn targets part (typed part.typed) frame.0 F P c d n (λ n d. exec_block Unbounded bodies (from own old) block n d)
          (λ R Q c d n i g. exec_block_safe block R Q sc c d n (turn_part part) frame.1 i g) stands h)
        where
          typed : IsStmt own sc (s.While (s.loop at guard invariants block turn targets)) → All (IsAssertion (inside own sc)) invariants
          typed (loops i j k same) = j

      pub exec_block_safe : (block : s.Stmts) (F : Rest) (P : Configuration → Type 0) (sc : Scope) (c d : Configuration) (n : ℕ) → ArePartStmts own sc block → AreFramedStmts block → Stands F own sc c d →
          Safe P (run_block Unbounded (from own older) block c) → Safe (EndsIn (Result F own (stmts_scope sc block) P)) (exec_block Unbounded bodies (from own old) block n d)
      exec_block_safe s.skip F P sc c d n part frame stands h = goes_safe (record { small = c; goes = safe_goes h; stands = stands })
      exec_block_safe (s.next a rest) F P sc c d n part frame stands h =
          going_safe (exec_stmt_safe a F (λ e. Safe P (run_block Unbounded (from own older) rest e)) sc c d n (first_part part) frame.0 stands (first_safe (run_stmt Unbounded (from own older) a c) (run_block Unbounded (from own older) rest) h))
          (λ n d r. exec_block_safe rest F P (scope_after sc a) r.small d n (rest_part part) frame.1 r.stands r.goes)

  -- ---- bodies

  -- the modular run of a body changes no parameter
  params_kept : (k : ℕ) (m : Method) (body : Body) → slice_get program.methods k ≡ Some m → m.body ≡ Some body → (a : Activation) (c : Configuration) →
      KeepsRun IsAny IsAny (λ e. (i : (x : ℕ) × (x < m.params)) → slice_get e.store i.0 ≡ slice_get c.store i.0) (run_block Unbounded a body.stmts c)
  params_kept k m body there has a c =
      let part = stmts_parts program formed k m body there has in
      each_kept (run_block Unbounded a body.stmts c) (λ (i : (x : ℕ) × (x < m.params)).
      change.block_changes Unbounded a i.0 body.stmts c part.typed (omega (arith, i.1)) (params_unassigned i.0 i.1 (omega arith) part.typed))

  pub exec_body_safe : (bodies : Bodies) → BodiesSafe program bodies → BodiesSafe program (exec_body Unbounded bodies program)
  exec_body_safe bodies safe k m body there has G given u w st h n =
      let frame : MethodContext = method_frame program m in
      let sc : Scope = method_scope m in
      let c : Configuration = record { store = first_store m given; state = u } in
      let d : Configuration = record { store = first_store m given; state = w } in
      let olds = under_close st.under in
      let store_fits = first_fits Unbounded program formed m given st.given_fits in
      let stands : Stands G frame sc c d = record { under = st.under; less = record { store = store_fits; state = st.less }; more = record { store = store_fits; state = st.more }; whole = st.whole; seen = λ x i. refl } in
      let framed_method = at_item IsFramedMethod program.methods framed.methods k m there in
      let ending : Configuration → Run State = λ e. consume_all Unbounded m.postconditions e.state (scene (from frame u) e body.turn) e.state in
      let modular = keep_safe (λ x i. tt) (params_kept k m body there has (from frame u) c) (first_safe (run_block Unbounded (from frame u) body.stmts c) ending h) in
      going_safe (exec_block_safe bodies safe m u w olds st.less st.more body.stmts G
      (λ e. Safe (λ left. Unit {0}) (ending e) × ((i : (x : ℕ) × (x < m.params)) → slice_get e.store i.0 ≡ slice_get c.store i.0)) sc c d n
      (stmts_parts program formed k m body there has) (at_some IsFramedBody m.body framed_method.body body has).stmts stands modular) (λ n e r.
      let small_scene : FitsScene program.layout m.vars (scene (from frame u) r.small body.turn) = record { store = r.stands.less.store; old = st.less } in
      let ended = narrower {sc = sc} (later-stmts_scope sc body.stmts) r.stands in
      then_safe (asserted (postcondition_context program m) formed G r.small.state e.state (scene (from frame u) r.small body.turn) (scene (from frame w) e body.turn) m.postconditions
      (method_of_typed program formed.typed k m there).postconditions framed_method.postconditions r.stands.under r.stands.less.state small_scene (scenes_stand u w olds st.less ended body.turn body.turn) r.goes.0) (λ other z.
      goes_safe (record {
        small = r.small;
        stands = ended;
        shares = z.2.shares;
        left = z.0;
        asked = z.2.asked;
        gives = z.2.given;
        params = λ x low. sym (ended.seen x (lt-below (m.params + m.returns) x (omega (arith, low)))) ∙ r.goes.1 (x, low) ∙ front_at given _ x (omega (arith, low, given_long k m there given st.given_fits));
      })))
    where
      given_long : (k : ℕ) (m : Method) → slice_get program.methods k ≡ Some m → (given : List Value) → FitsStore (take (m.params + m.returns) m.vars) given → length given ≡ m.params + m.returns
      given_long k m there given fits = AllZip-long FitsValue (take (m.params + m.returns) m.vars) given fits ∙ length-take-le (m.params + m.returns) m.vars (params_few program formed k m there)

  pub bodies_safe : (depth : ℕ) → BodiesSafe program (bodies_within Unbounded program depth)
  bodies_safe zero k m body there has G given u w st h n = goes_safe tt
  bodies_safe (suc depth) k m body there has G given u w st h n = exec_body_safe (bodies_within Unbounded program depth) (bodies_safe depth) k m body there has G given u w st h n

  -- ---- whole executions

  pub exec_safe : (k : ℕ) (m : Method) (body : Body) → slice_get program.methods k ≡ Some m → m.body ≡ Some body → (o : Opening) → FitsOpening program.layout (take (m.params + m.returns) m.vars) o → (n : ℕ) →
      Safe (λ w. Unit {0}) (exec Unbounded program m body o n)
  exec_safe k m body there has o opens n =
      let start : State = empty_state program.layout o.memo in
      let start_fits = empty_state_fits program.layout o.memo opens.memo in
      let sc : Scene = first_scene program m o in
      let running : State → Run State = λ s. run_method Unbounded (from (method_frame program m) s) m m.body (record { store = first_store m o.store; state = s }) in
      let begun = first_safe (begin_method Unbounded program m o) running (units k m there o opens) in
      let fit = keep_safe (λ c i. i) (produce_all_fits Unbounded (precondition_context program m) formed m.preconditions sc start (method_of_typed program formed.typed k m there).preconditions start_fits
      (record { store = first_fits Unbounded program formed m o.store opens.store; old = start_fits })) begun in
      let whole = keep_safe (λ c i. tt) (produce_all_any Unbounded program HoldsAtMostWhole (whole_kept Unbounded program) m.preconditions sc start (empty_whole program.layout o.memo)) fit in
      let sign = keep_safe (λ c i. tt) (produce_all_any Unbounded program IsNonnegative (sign_kept Unbounded program) m.preconditions sc start (empty_state_nonnegative program.layout o.memo)) whole in
      then_safe sign (λ s p.
      let full = full_where_fits p.0.0.1 p.1 in
      weaker_safe (λ w q. tt) (going_safe {Q = λ w. Unit {0}} (exec_body_safe (bodies_within Unbounded program n) (bodies_safe n) k m body there has (nobody s) o.store s s
      (record { under = close_under s (record { less = full; more = full; near = near_self full.whole }); less = p.0.0.1; more = p.0.0.1; whole = p.0.1; given_fits = opens.store })
      (runs s p.0.0.0) n) (λ n d e. goes_safe tt)))
    where
      runs : (s : State) → Safe (λ left. Unit {0}) (run_method Unbounded (from (method_frame program m) s) m m.body (record { store = first_store m o.store; state = s })) →
          Safe (λ left. Unit {0}) (run_body Unbounded (from (method_frame program m) s) m body (record { store = first_store m o.store; state = s }))
      runs s h = body_runs program m body has s (first_store m o.store) h
