-- Calls of methods with a body: what the callee's own unit promises holds of the body that is run on the whole state, and the
-- caller's modular run, which has the contract alone, is given what the body made.
use Rattle.std.proofs.Common.{◌≡◌, refl, sym, ◌∙◌, subst, arith, ◌<◌, ◌≤◌, ◌+◌, ℕ, true, false, Option, Some, None, List, ◌++◌, length, All, IsTrue, slice_get, take, if◌then◌else◌}
use Rattle.std.proofs.lemmas.Bool.{true≢false}
use Rattle.std.proofs.lemmas.Slice.Zip.{AllZip-long}
use Rattle.lemmas.proofs.Lists.{front_at}
use Rattle.vb_base.specs.declared.places.Pos.{Pos}
use Rattle.vb_value.specs.Bound.{Unbounded}
use Rattle.vb_value.specs.declared.values.Value.{Value}
use Rattle.viper_core.specs.Formed.{variables_of, precondition_context, postcondition_context, method_frame, method_scope, IsFormed}
use Rattle.viper_core.specs.Part.{cut}
use Rattle.viper_core.specs.Program.{Program, Method, Body}
use Rattle.viper_core.specs.Scope.{Scope, after_targets}
use Rattle.viper_core.specs.Typing.{Context, MethodContext, Receive, params_of, returns_of}
use Rattle.viper_core.specs.Written.{HasNoWildcard}
use Rattle.viper_core.proofs.CutLaws.{preconditions_cut, postconditions_cut}
use Rattle.viper_core.proofs.FormedLaws.{method_of_typed}
use Rattle.viper_core.proofs.ScopeLaws.{fresh-stmts_scope}
use Rattle.viper_core.proofs.UnitLaws.{below-lt}
use Rattle.viper_state.specs.Fits.{FitsValue, FitsStore, FitsState, FitsScene, FitsOpening, FitsChoice}
use Rattle.viper_state.specs.Run.{Opening, Scene, with_variables}
use Rattle.viper_state.specs.State.{Memo, State, empty_state}
use Rattle.viper_state.proofs.FitsLaws.{memo_fits, empty_state_fits}
use Rattle.viper_state.proofs.ProperLaws.{scene_proper}
use Rattle.viper_meaning.specs.Forgotten.{forgotten, with_memo, forget}
use Rattle.viper_meaning.specs.HeldWhole.{HoldsAtMostWhole}
use Rattle.viper_meaning.specs.Run.{Run, goes, then_do}
use Rattle.viper_meaning.specs.Sat.{Share, memo_of_state}
use Rattle.viper_meaning.specs.Statements.{Configuration, Activation, scene, stored, taking_values, produce_all, consume_all, exhale_all, called}
use Rattle.viper_meaning.specs.Units.{first_store, first_scene, begin_method, check_postcondition, run_body, run_method, start_method}
use Rattle.viper_meaning.proofs.MoreLaws.{ScenesAgree}
use Rattle.viper_meaning.proofs.NearLaws.{Close}
use Rattle.viper_meaning.proofs.StatementFitsLaws.{ValuesOf, stored_fits, first_fits}
use Rattle.viper_meaning.proofs.UnderLaws.{Rest, Under, Owes, under_close}
use Rattle.viper_exec_meaning.specs.Execution.{Bodies, returns_in, returned, exec_call}
use Rattle.viper_exec_meaning.proofs.AssembleLaws.{Stands, stored_seen}
use Rattle.viper_exec_meaning.proofs.AssertLaws.{asserted, produced, Result}
use Rattle.viper_exec_meaning.proofs.LeftLaws.{after_fits}
use Rattle.viper_exec_meaning.proofs.MoveLaws.{starts, begins_again, comes_back}
use Rattle.viper_exec_meaning.proofs.SafeLaws.{Safely, goes_safe, then_safe, first_safe, safe_goes}
use Rattle.viper_exec_meaning.proofs.StepLaws.{EndsIn, going_safe, beginning_safe, safe_forget, safe_branch, safe_values, values_safe}
use Rattle.viper_exec_meaning.proofs.StmtLaws.{from}
use Rattle.viper_exec_meaning.proofs.StoreLaws.{arguments_fit, returned_fit, given_back_fit, targets_fit, values_long, params_long, first_same, returns_same}
use Rattle.viper_exec_meaning.proofs.Under.{Gives, besides, AskAll}

-- ---- bodies

-- how a body ends beside its modular run: that gave up the postcondition, which was asked for in the whole state
pub record BodyEnds (program : Program) (m : Method) (body : Body) (G : Rest) (given : List Value) (old : State) (d : Configuration) : Type 0 where
  pub small : Configuration
  pub stands : Stands G (method_frame program m) (method_scope m) small d
  pub shares : List Share
  pub left : State
  pub asked : AskAll d.state (scene (from (method_frame program m) old) d body.turn) m.postconditions shares
  pub gives : Gives shares small.state left
  pub params : (x : ℕ) → x < m.params → slice_get d.store x ≡ slice_get given x

-- a body starts in a state under the whole one, from the same variables
pub record Starts (program : Program) (m : Method) (G : Rest) (given : List Value) (s w : State) : Type 0 where
  pub under : Under G s w
  pub less : FitsState program.layout s
  pub more : FitsState program.layout w
  pub whole : HoldsAtMostWhole w
  pub given_fits : FitsStore (take (m.params + m.returns) m.vars) given

-- where the modular run of a body never fails, neither do these
abbrev pub BodiesSafe : Program → Bodies → Type 0
BodiesSafe program bodies = (k : ℕ) (m : Method) (body : Body) → slice_get program.methods k ≡ Some m → m.body ≡ Some body →
    (G : Rest) (given : List Value) (s w : State) → Starts program m G given s w →
    Safely (FitsChoice program.layout) (λ left. Unit {0}) (run_body Unbounded (from (method_frame program m) s) m body (record { store = first_store m given; state = s })) →
    (n : ℕ) → Safely (FitsChoice program.layout) (EndsIn (BodyEnds program m body G given w)) (bodies m body given w n)

-- no unit fails
abbrev pub UnitsSafe : Program → Type 0
UnitsSafe program = (k : ℕ) (m : Method) → slice_get program.methods k ≡ Some m → (o : Opening) → FitsOpening program.layout (take (m.params + m.returns) m.vars) o →
    Safely (FitsChoice program.layout) (λ left. Unit {0}) (start_method Unbounded program m o)

-- ---- lists

pub params_few : (program : Program) → IsFormed program → (k : ℕ) (m : Method) → slice_get program.methods k ≡ Some m → m.params + m.returns ≤ length m.vars
params_few program formed k m there = by m.body (method_of_typed program formed.typed k m there).variables
  where
    by : (o : Option Body) → length m.vars ≡ variables_of (method_scope m) o → m.params + m.returns ≤ length m.vars
    by None e = omega (arith, e)
    by (Some body) e = omega (arith, e, fresh-stmts_scope (method_scope m) body.stmts)

no_old : {P : Type 0} → IsTrue false → P
no_old e = absurd (true≢false (sym e))

-- a method that runs may run its body
pub body_runs : (program : Program) (m : Method) (body : Body) → m.body ≡ Some body → (s : State) (store : List Value) →
    Safely (FitsChoice program.layout) (λ left. Unit {0}) (run_method Unbounded (from (method_frame program m) s) m m.body (record { store = store; state = s })) →
    Safely (FitsChoice program.layout) (λ left. Unit {0}) (run_body Unbounded (from (method_frame program m) s) m body (record { store = store; state = s }))
body_runs program m body has s store h =
    let k : Activation = from (method_frame program m) s in
    let c : Configuration = record { store = store; state = s } in
    safe_branch program.layout (λ runs. if runs then run_body Unbounded k m body c else check_postcondition Unbounded k m store) true (subst (λ o. Safely (FitsChoice program.layout) (λ left. Unit {0}) (run_method Unbounded k m o c)) has h)

module _ (program : Program) (formed : IsFormed program) (units : UnitsSafe program) (k : ℕ) (callee : Method) (body : Body) (there : slice_get program.methods k ≡ Some callee) (has : callee.body ≡ Some body)
    (vs : List Value) (vs_fit : FitsStore (params_of callee) vs) where
  abbrev Safe : {X : Type 0} → (X → Type 0) → Run X → Type 0
  Safe P r = Safely (FitsChoice program.layout) P r

  long : length vs ≡ callee.params
  long = let few = params_few program formed k callee there in params_long callee vs (omega (arith, few)) vs_fit

  -- ---- the callee's unit begins

  abbrev opening : List Value → State → Opening
  opening ws u = record { store = vs ++ ws; memo = memo_of_state u }

  opening_fits : (ws : List Value) (u : State) → ValuesOf callee.vars (returns_in callee) ws → FitsState program.layout u → FitsOpening program.layout (take (callee.params + callee.returns) callee.vars) (opening ws u)
  opening_fits ws u ws_fit fits = record { store = arguments_fit callee vs ws vs_fit ws_fit; memo = memo_fits program.layout u fits }

  first_scene_fits : (ws : List Value) (u : State) → ValuesOf callee.vars (returns_in callee) ws → FitsState program.layout u → FitsScene program.layout callee.vars (first_scene program callee (opening ws u))
  first_scene_fits ws u ws_fit fits = record { store = first_fits Unbounded program formed callee (vs ++ ws) (arguments_fit callee vs ws vs_fit ws_fit); old = empty_state_fits program.layout (memo_of_state u) (memo_fits program.layout u fits) }

  pub body_begins : (G : Rest) (xs : List Share) (ws : List Value) (u w : State) (sd : Scene) → ValuesOf callee.vars (returns_in callee) ws → FitsState program.layout u → FitsState program.layout w → HoldsAtMostWhole w →
      Owes G xs (empty_state program.layout (memo_of_state u)) w → AskAll w (with_variables vs sd) callee.preconditions xs →
      (s : State) × Starts program callee G (vs ++ ws) s w × Safe (λ left. Unit {0}) (run_body Unbounded (from (method_frame program callee) s) callee body (record { store = first_store callee (vs ++ ws); state = s }))
  body_begins G xs ws u w sd ws_fit fits w_fits whole owes asked =
      let o : Opening = opening ws u in
      let sc : Scene = first_scene program callee o in
      let start : State = empty_state program.layout (memo_of_state u) in
      let scene_is = first_scene_fits ws u ws_fit fits in
      let agree : ScenesAgree (precondition_context program callee) sc (with_variables vs sd) = record {
        proper = scene_proper program.layout callee.vars sc scene_is;
        seen = λ x i. let low = below-lt callee.params x i in first_same callee vs ws x (omega (arith, low, long));
        old = no_old;
      } in
      let made = produced (precondition_context program callee) formed G start w sc (with_variables vs sd) callee.preconditions xs (method_of_typed program formed.typed k callee there).preconditions asked owes w_fits whole
      (empty_state_fits program.layout (memo_of_state u) (memo_fits program.layout u fits)) scene_is agree
      (first_safe (begin_method Unbounded program callee o) (λ s. run_method Unbounded (from (method_frame program callee) s) callee callee.body (record { store = first_store callee (vs ++ ws); state = s })) (units k callee there o (opening_fits ws u ws_fit fits))) in
      (made.0, record { under = made.1; less = made.2.1; more = w_fits; whole = whole; given_fits = arguments_fit callee vs ws vs_fit ws_fit }, body_runs program callee body has made.0 (first_store callee (vs ++ ws)) made.2.0)

  -- ---- the caller

  module _ (caller : Method) (older old : State) (olds : Close older old) (older_fits : FitsState program.layout older) (sc : Scope) (targets : List ℕ) (receive : Receive (method_frame program caller) sc targets (returns_of callee))
      (written : All HasNoWildcard callee.preconditions) (at : Pos) (F : Rest) (P : Configuration → Type 0) (a d : Configuration) (stands : Stands F (method_frame program caller) sc a d) where
    abbrev m : MethodContext
    m = method_frame program caller

    abbrev with_values : State → List Value → Run Configuration
    with_values s rs = then_do (produce_all Unbounded callee.postconditions (record { store = vs ++ rs; old = a.state; at = at }) s) (λ t. goes (record { store = stored a.store targets rs; state = t }))

    abbrev given_up : State → Run Configuration
    given_up s = then_do (taking_values m.vars targets) (with_values s)

    -- the caller forgets what the callee may have changed, and is given what it made
    given_back : (left : State) (xs : List Share) (ws : List Value) (e : Configuration) → FitsState program.layout left → (gave : Gives xs a.state left) → Safe (λ s. Safe P (given_up s)) (forget program.layout left) →
        BodyEnds program callee body (besides F left gave.full d.state) (vs ++ ws) d.state e → Result F m (after_targets sc targets) P (record { store = stored d.store targets (returned callee e.store); state = e.state })
    given_back left xs ws e left_fits gave h ends =
        let rs : List Value = returned callee e.store in
        let memo : Memo = memo_of_state ends.small.state in
        let memo_is = memo_fits program.layout ends.small.state ends.stands.less.state in
        let s : State = with_memo left (forgotten left memo) in
        let taken = targets_fit targets (returns_of callee) rs receive (returned_fit callee e.store ends.stands.more.store) in
        let sd : Scene = scene (from (method_frame program callee) d.state) e body.turn in
        let su : Scene = record { store = vs ++ rs; old = a.state; at = at } in
        let c : Context = cut (postcondition_context program callee) (callee.params + callee.returns) in
        let scene_is : FitsScene program.layout c.vars su = record { store = given_back_fit callee vs e.store vs_fit ends.stands.more.store; old = stands.less.state } in
        let agree : ScenesAgree c su sd = record {
          proper = scene_proper program.layout c.vars su scene_is;
          seen = λ x i. returns_same callee vs e.store long (λ z low. ends.params z low ∙ front_at vs ws z (omega (arith, low, long))) x (below-lt (callee.params + callee.returns) x i);
          old = λ allowed. under_close stands.under;
        } in
        let values = safe_values program.layout m.vars targets rs taken (first_safe (taking_values m.vars targets) (with_values s) (safe_forget program.layout left memo memo_is h)) in
        let made = produced c formed F s e.state su sd callee.postconditions ends.shares (λ n x within. (postconditions_cut program formed k callee there n x within).typed) ends.asked
        (comes_back program.layout stands.under left_fits memo_is gave (begins_again program.layout ends.stands.under ends.stands.less.state ends.gives)) ends.stands.more.state ends.stands.whole
        (after_fits program.layout left memo left_fits memo_is) scene_is agree
        (first_safe (produce_all Unbounded callee.postconditions su s) (λ t. goes (record { store = stored a.store targets rs; state = t })) values) in
        record {
          small = record { store = stored a.store targets rs; state = made.0 };
          goes = safe_goes made.2.0;
          stands = record {
            under = made.1;
            less = record { store = stored_fits m.vars a.store targets rs stands.less.store taken; state = made.2.1 };
            more = record { store = stored_fits m.vars d.store targets rs stands.more.store taken; state = ends.stands.more.state };
            whole = ends.stands.whole;
            seen = stored_seen sc targets a.store d.store rs (AllZip-long FitsValue m.vars a.store stands.less.store ∙ sym (AllZip-long FitsValue m.vars d.store stands.more.store)) (values_long m.vars targets rs taken) stands.seen;
          };
        }

    -- where the caller's modular run never fails, the call does not
    pub call_safe : (bodies : Bodies) → BodiesSafe program bodies → (n : ℕ) → Safe P (called Unbounded (from m older) targets callee vs at a) →
        Safe (EndsIn (Result F m (after_targets sc targets) P)) (exec_call Unbounded bodies (from m old) targets callee body vs at n d)
    call_safe bodies safe n h =
        let su : Scene = with_variables vs (scene (from m older) a at) in
        let sd : Scene = with_variables vs (scene (from m old) d at) in
        let c : Context = cut (precondition_context program callee) callee.params in
        let scene_is : FitsScene program.layout c.vars su = record { store = vs_fit; old = older_fits } in
        let exhaled = first_safe (exhale_all Unbounded program callee.preconditions a.state su) given_up h in
        then_safe (asserted c formed F a.state d.state su sd callee.preconditions (λ n x within. (preconditions_cut program formed k callee there n x within).typed) written stands.under stands.less.state scene_is
        (record { proper = scene_proper program.layout c.vars su scene_is; seen = λ x i. refl; old = no_old })
        (first_safe (consume_all Unbounded callee.preconditions a.state su a.state) (forget program.layout) exhaled)) (λ other z.
        then_safe (values_safe program.layout callee.vars (returns_in callee)) (λ ws ws_fit. beginning_safe n (λ n.
        let begun = body_begins (besides F z.0 z.2.given.full d.state) z.2.shares ws a.state d.state (scene (from m old) d at) ws_fit stands.less.state stands.more.state stands.whole
        (starts program.layout stands.under stands.less.state z.2.given) z.2.asked in
        going_safe (safe k callee body there has (besides F z.0 z.2.given.full d.state) (vs ++ ws) begun.0 d.state begun.1 begun.2 n) (λ n e ends.
        goes_safe (given_back z.0 z.2.shares ws e z.1.1 z.2.given z.1.0 ends)))))
