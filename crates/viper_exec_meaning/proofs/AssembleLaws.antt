-- Statements and calls with less permission and with more, from two configurations: the second fails only where the first does, and
-- they stand side by side again.
use Rattle.std.proofs.Common.{◌≡◌, refl, sym, ap, ◌∙◌, subst, ◌+◌, ℕ, Some, List, ◌++◌, All, Contains, length, slice_get, take}
use Rattle.std.proofs.lemmas.Slice.Zip.{AllZip-long}
use Rattle.vb_base.specs.declared.places.Pos.{Pos}
use Rattle.vb_value.specs.Bound.{Unbounded}
use Rattle.vb_value.specs.declared.values.Ty.{Ty}
use Rattle.vb_value.specs.declared.values.Value.{Value}
use Rattle.viper_core.specs.Formed.{IsFormed, precondition_context, postcondition_context}
use Rattle.viper_core.specs.Part.{cut}
use Rattle.viper_core.specs.Program.{Method}
use Rattle.viper_core.specs.Scope.{Scope, after_targets, scope_after}
use Rattle.viper_core.specs.Stmt as s
use Rattle.viper_core.specs.Typing.{MethodContext, Receive, params_of, returns_of, IsStmt}
use Rattle.viper_core.specs.Written.{HasNoWildcard}
use Rattle.viper_core.proofs.CutLaws.{preconditions_cut, postconditions_cut}
use Rattle.viper_state.specs.Fits.{FitsValue, FitsStore, FitsState, FitsChoice, FitsEvent}
use Rattle.viper_state.specs.Run.{with_variables}
use Rattle.viper_state.specs.State.{State}
use Rattle.viper_state.proofs.ProperLaws.{scene_proper}
use Rattle.viper_meaning.specs.Alike.{LooksAlike}
use Rattle.viper_meaning.specs.Configurations.{FitsConfiguration}
use Rattle.viper_meaning.specs.HeldWhole.{HoldsAtMostWhole}
use Rattle.viper_meaning.specs.Kept.{IsAny}
use Rattle.viper_meaning.specs.KeptRuns.{KeepsRun}
use Rattle.viper_meaning.specs.Run.{Run, goes, then_do}
use Rattle.viper_meaning.specs.Statements.{Configuration, scene, stored, produce_all, called, run_stmt}
use Rattle.viper_meaning.proofs.AlikeLaws.{RunsAlike}
use Rattle.viper_meaning.proofs.MoreLaws.{ScenesAgree}
use Rattle.viper_meaning.proofs.NearLaws.{Close}
use Rattle.viper_meaning.proofs.SeenLaws.{all_stored, visible_targets, called_seen, stmt_looks}
use Rattle.viper_meaning.proofs.StateKeptLaws.{OfState, called_any}
use Rattle.viper_meaning.proofs.StatementFitsLaws.{ValuesOf, both_fit, take_both, received_fit, called_fits, run_stmt_fits}
use Rattle.viper_meaning.proofs.UnderLaws.{Rest, Under, under_close}
use Rattle.viper_meaning.proofs.WholeLaws.{whole_kept, run_stmt_whole}
use Rattle.viper_exec_meaning.specs.Frame.{IsFramedStmt}
use Rattle.viper_exec_meaning.proofs.SafeLaws.{Leads, goes_leads, then_leads, weaker_leads}
use Rattle.viper_exec_meaning.proofs.SimpleLaws.{produce_all_two}
use Rattle.viper_exec_meaning.proofs.StmtLaws.{leads_keep, fewer_choices, alike_leads, exhale_two, values_lead, IsSimple, from, At, InOneStore, simple_core}

-- The first configuration lies under the second beside the rest, and the variables in scope have the same values. Both fit, and of no
-- place more than the whole is held.
pub record Stands (F : Rest) (m : MethodContext) (sc : Scope) (c d : Configuration) : Type 0 where
  pub under : Under F c.state d.state
  pub less : FitsConfiguration m.program.layout m.vars c
  pub more : FitsConfiguration m.program.layout m.vars d
  pub whole : HoldsAtMostWhole d.state
  pub seen : (x : ℕ) → Contains sc.visible x → slice_get c.store x ≡ slice_get d.store x

pub same_length : (us : List Ty) (vs ws : List Value) → FitsStore us vs → FitsStore us ws → length vs ≡ length ws
same_length us vs ws h g = AllZip-long FitsValue us vs h ∙ sym (AllZip-long FitsValue us ws g)

-- the same is stored in both: the variables in scope have the same values again
pub stored_seen : (sc : Scope) (targets : List ℕ) (vs ws rs : List Value) → length vs ≡ length ws → length rs ≡ length targets → ((x : ℕ) → Contains sc.visible x → slice_get vs x ≡ slice_get ws x) →
    (x : ℕ) → Contains (after_targets sc targets).visible x → slice_get (stored vs targets rs) x ≡ slice_get (stored ws targets rs) x
stored_seen sc targets vs ws rs e long known x seen = (all_stored {P = Contains sc.visible} {vs = vs} {ws = ws} targets rs long (record { as_many = e; seen = known })).seen x (visible_targets sc targets x seen)

-- ---- first in another store, and then with more permission

joined : (F : Rest) (visible : List ℕ) (x y z : Configuration) → LooksAlike visible x y → InOneStore F y z → ((n : ℕ) → Contains visible n → slice_get x.store n ≡ slice_get z.store n) × Under F x.state z.state
joined F visible x y z l k = (λ n among. l.seen n among ∙ ap (λ store. slice_get store n) k.0, subst (λ u. Under F u z.state) (sym l.state) k.1)

assembled : (F : Rest) (m : MethodContext) (after : Scope) {r u v : Run Configuration} → RunsAlike (LooksAlike after.visible) r u → Leads (FitsChoice m.program.layout) (InOneStore F) u v →
    KeepsRun (FitsEvent m.program.layout) (FitsChoice m.program.layout) (FitsConfiguration m.program.layout m.vars) r → KeepsRun (FitsEvent m.program.layout) (FitsChoice m.program.layout) (FitsConfiguration m.program.layout m.vars) v →
    KeepsRun IsAny IsAny (OfState HoldsAtMostWhole) v → Leads (FitsChoice m.program.layout) (Stands F m after) r v
assembled F m after h g less more whole =
    weaker_leads (λ x y r. record { under = r.0.0.1; less = r.0.1; more = r.0.2; whole = r.2; seen = r.0.0.0 }) (leads_keep (leads_keep (alike_leads (joined F after.visible) g h) less more) less (fewer_choices whole))

-- ---- a call of a method without a body, in one store

module _ (m : MethodContext) (formed : IsFormed m.program) (older old : State) (olds : Close older old) (older_fits : FitsState m.program.layout older) (old_fits : FitsState m.program.layout old) where
  module _ (F : Rest) (sc : Scope) (targets : List ℕ) (k : ℕ) (callee : Method) (args : List Value) (at : Pos) (there : slice_get m.program.methods k ≡ Some callee) (fit : FitsStore (params_of callee) args)
      (into : Receive m sc targets (returns_of callee)) (n : All HasNoWildcard callee.preconditions) (store : List Value) (u w : State) (h : Under F u w) (less : FitsState m.program.layout u) (more : FitsState m.program.layout w) where
    -- the precondition is read with the parameters, and says nothing of the old state
    before_agree : ScenesAgree (cut (precondition_context m.program callee) callee.params) (with_variables args (scene (from m older) (At store u) at)) (with_variables args (scene (from m old) (At store w) at))
    before_agree = record {
      proper = scene_proper m.program.layout (take callee.params callee.vars) (with_variables args (scene (from m older) (At store u) at)) (record { store = fit; old = older_fits });
      seen = λ x seen. refl;
      old = λ no. absurd (cc);
    }

    -- the postcondition with the returns too, and its old state is that before the call
    after_agree : (ws : List Value) → ValuesOf m.vars targets ws →
        ScenesAgree (cut (postcondition_context m.program callee) (callee.params + callee.returns)) (record { store = args ++ ws; old = u; at = at }) (record { store = args ++ ws; old = w; at = at })
    after_agree ws i =
        let all : FitsStore (take (callee.params + callee.returns) callee.vars) (args ++ ws) =
        subst (λ us. FitsStore us (args ++ ws)) (take_both callee.params callee.returns callee.vars) (both_fit (params_of callee) (returns_of callee) args ws fit (received_fit targets (returns_of callee) ws into i)) in
        record {
          proper = scene_proper m.program.layout (take (callee.params + callee.returns) callee.vars) (record { store = args ++ ws; old = u; at = at }) (record { store = all; old = less });
          seen = λ x seen. refl;
          old = λ allowed. under_close h;
        }

    abbrev produced : State → State → List Value → Run Configuration
    produced before left ws = then_do (produce_all Unbounded callee.postconditions (record { store = args ++ ws; old = before; at = at }) left) (λ x. goes (At (stored store targets ws) x))

    produced_two : (x z : State) → Under F x z → (vs ws : List Value) → (vs ≡ ws) × ValuesOf m.vars targets vs × ValuesOf m.vars targets ws → Leads (FitsChoice m.program.layout) (InOneStore F) (produced u x vs) (produced w z ws)
    produced_two x z l vs ws r =
        subst (λ zs. Leads (FitsChoice m.program.layout) (InOneStore F) (produced u x vs) (produced w z zs)) r.0
        (then_leads (produce_all_two F (cut (postcondition_context m.program callee) (callee.params + callee.returns)) formed.typed (record { store = args ++ vs; old = u; at = at }) (record { store = args ++ vs; old = w; at = at })
        (after_agree vs r.1) callee.postconditions (λ n x within. (postconditions_cut m.program formed k callee there n x within).typed) x z l) (λ y o j. goes_leads (refl, j)))

    called_core : Leads (FitsChoice m.program.layout) (InOneStore F) (called Unbounded (from m older) targets callee args at (At store u)) (called Unbounded (from m old) targets callee args at (At store w))
    called_core =
        then_leads (exhale_two F (cut (precondition_context m.program callee) callee.params) formed (with_variables args (scene (from m older) (At store u) at)) (with_variables args (scene (from m old) (At store w) at)) before_agree
        (record { store = fit; old = older_fits }) (record { store = fit; old = old_fits }) callee.preconditions (λ n x within. (preconditions_cut m.program formed k callee there n x within).typed) n u w h less more) (λ x z l.
        then_leads (values_lead m.vars targets) (λ vs ws r. produced_two x z l vs ws r))

  -- ---- from two configurations

  pub simple_two : (F : Rest) (sc : Scope) (a : s.Stmt) (c d : Configuration) → IsStmt m sc a → IsFramedStmt a → IsSimple a → Stands F m sc c d →
      Leads (FitsChoice m.program.layout) (Stands F m (scope_after sc a)) (run_stmt Unbounded (from m older) a c) (run_stmt Unbounded (from m old) a d)
  simple_two F sc a c d i n simple h =
      assembled F m (scope_after sc a)
      (stmt_looks Unbounded (from m older) m a c (At d.store c.state) i (record { state = refl; as_many = same_length m.vars c.store d.store h.less.store h.more.store; seen = h.seen }))
      (simple_core m formed older old olds older_fits old_fits F sc d.store h.more.store c.state d.state h.under h.less.state h.more.state h.whole a i n simple)
      (run_stmt_fits Unbounded m formed older older_fits sc a c i h.less) (run_stmt_fits Unbounded m formed old old_fits sc a d i h.more) (run_stmt_whole Unbounded (from m old) a d h.whole)

  pub called_two : (F : Rest) (sc : Scope) (targets : List ℕ) (k : ℕ) (callee : Method) (args : List Value) (at : Pos) (c d : Configuration) → slice_get m.program.methods k ≡ Some callee → FitsStore (params_of callee) args →
      Receive m sc targets (returns_of callee) → All HasNoWildcard callee.preconditions → Stands F m sc c d →
      Leads (FitsChoice m.program.layout) (Stands F m (after_targets sc targets)) (called Unbounded (from m older) targets callee args at c) (called Unbounded (from m old) targets callee args at d)
  called_two F sc targets k callee args at c d there fit into n h =
      assembled F m (after_targets sc targets)
      (called_seen Unbounded (from m older) m sc targets callee args at c.store d.store c.state (record { as_many = same_length m.vars c.store d.store h.less.store h.more.store; seen = h.seen }))
      (called_core F sc targets k callee args at there fit into n d.store c.state d.state h.under h.less.state h.more.state)
      (called_fits Unbounded m formed older older_fits sc targets k callee args at c there fit into h.less) (called_fits Unbounded m formed old old_fits sc targets k callee args at d there fit into h.more)
      (called_any Unbounded (from m old) HoldsAtMostWhole (whole_kept Unbounded m.program) targets callee args at d h.whole)
