-- Statements with less permission and with more, in one store: where no call and no loop is made, the second fails only where the
-- first does, and the states lie one under the other again.
use Rattle.std.proofs.Common.{◌≡◌, refl, ℕ, Some, None, List, [], ◌∷◌, All, Contains, slice_get}
use Rattle.std.proofs.lemmas.List.Elements.{All-nil, All-cons}
use Rattle.std.specs.Prelude.{⊤}
use Rattle.vb_base.specs.declared.places.Pos.{Pos}
use Rattle.vb_value.specs.Bound.{Unbounded}
use Rattle.vb_value.specs.Fraction.{write}
use Rattle.vb_value.specs.Layout.{Layout}
use Rattle.vb_value.specs.declared.values.Ty.{Ty}
use Rattle.vb_value.specs.declared.values.Value.{Value}
use Rattle.vb_value.proofs.ReducedLaws.{proper_value}
use Rattle.viper_core.specs.Expr as t
use Rattle.viper_core.specs.Formed.{IsFormed}
use Rattle.viper_core.specs.Scope.{Scope}
use Rattle.viper_core.specs.Stmt as s
use Rattle.viper_core.specs.Typing as typing
use Rattle.viper_core.specs.Typing.{Context, MethodContext, inside, IsAssertion, IsStmt}
use Rattle.viper_core.specs.Written.{HasNoWildcard}
use Rattle.viper_state.specs.Choice.{Choice}
use Rattle.viper_state.specs.Event as event
use Rattle.viper_state.specs.Event.{Event}
use Rattle.viper_state.specs.Fits.{FitsValue, FitsStore, FitsState, FitsScene, FitsChoice}
use Rattle.viper_state.specs.Run.{Scene}
use Rattle.viper_state.specs.State.{State}
use Rattle.viper_state.proofs.ProperLaws.{scene_proper}
use Rattle.viper_meaning.specs.Ends.{Evaluated}
use Rattle.viper_meaning.specs.HeldWhole.{HoldsAtMostWhole}
use Rattle.viper_meaning.specs.Kept as kept
use Rattle.viper_meaning.specs.Kept.{IsAny, Keeps}
use Rattle.viper_meaning.specs.KeptRuns as kept_run
use Rattle.viper_meaning.specs.KeptRuns.{KeepsRun}
use Rattle.viper_meaning.specs.Run.{Run, ended, takes}
use Rattle.viper_meaning.specs.Statements.{Configuration, Activation, scene, fresh_in, value_in, taking_values, exhale_all, run_stmt}
use Rattle.viper_meaning.proofs.AgreeLaws as agree
use Rattle.viper_meaning.proofs.AgreeLaws.{Agrees, IsSame, agrees_self}
use Rattle.viper_meaning.proofs.AlikeLaws as alike
use Rattle.viper_meaning.proofs.AlikeLaws.{EndsAlike, RunsAlike}
use Rattle.viper_meaning.proofs.MoreLaws.{ScenesAgree, typed_value_two}
use Rattle.viper_meaning.proofs.NearLaws.{Close}
use Rattle.viper_meaning.proofs.PartLaws.{amount_write}
use Rattle.viper_meaning.proofs.StatementFitsLaws.{ValuesOf, taking_values_fits, consume_all_fits}
use Rattle.viper_meaning.proofs.TypedLaws.{value_fits}
use Rattle.viper_meaning.proofs.UnderLaws.{Rest, Under}
use Rattle.viper_exec_meaning.specs.Frame.{IsFramedStmt}
use Rattle.viper_exec_meaning.proofs.SafeLaws.{Leads, together, stopped, past, lost_then, answered, goes_leads, before_leads, evaluating_leads, then_leads, taking_leads}
use Rattle.viper_exec_meaning.proofs.SimpleLaws.{consume_two, consume_all_two, forget_two, written_two, new_two}
use Rattle.viper_exec_meaning.proofs.KnownLaws.{same_leads, proper_leads, found_leads}
use Rattle.viper_exec_meaning.proofs.TwoLaws.{ref_two}
use Rattle.viper_exec_meaning.proofs.FoldLaws.{fold_two, unfold_two}

-- ---- what both keep

agrees_keep : {X Y : Type 0} {M : Type 0} {E G : Event → Type 0} {R : X → Y → Type 0} {P : X → Type 0} {Q : Y → Type 0} {e : Evaluated X} {f : Evaluated Y} → Agrees M R e f → Keeps E P e → Keeps G Q f → Agrees M (λ x y. R x y × P x × Q y) e f
agrees_keep agree.failed k j = agree.failed
agrees_keep agree.over k j = agree.over
agrees_keep (agree.both r) (kept.value h p) (kept.value i q) = agree.both (r, p, q)
agrees_keep agree.blocked k j = agree.blocked
agrees_keep (agree.lost m) k j = agree.lost m

pub leads_keep : {X Y : Type 0} {C : Choice → Type 0} {E G : Event → Type 0} {R : X → Y → Type 0} {P : X → Type 0} {Q : Y → Type 0} {r : Run X} {u : Run Y} → Leads C R r u → KeepsRun E C P r → KeepsRun G C Q u →
    Leads C (λ x y. R x y × P x × Q y) r u
leads_keep (together h) (kept_run.at_end k) (kept_run.at_end j) = together (agrees_keep h k j)
leads_keep stopped k j = stopped
leads_keep past k j = past
leads_keep lost_then k j = lost_then
leads_keep (answered answer fits g) (kept_run.later e k) (kept_run.later f j) = answered answer fits (λ c i. leads_keep (g c i) (k (answer c i) (fits c i)) (j c i))

-- what is kept on every choice is kept on some
pub fewer_choices : {X : Type 0} {E : Event → Type 0} {C : Choice → Type 0} {P : X → Type 0} {r : Run X} → KeepsRun E IsAny P r → KeepsRun E C P r
fewer_choices (kept_run.at_end h) = kept_run.at_end h
fewer_choices (kept_run.later h g) = kept_run.later h (λ c i. fewer_choices (g c tt))

-- ---- a run beside itself, and one after another

pub leads_self : {X : Type 0} {C : Choice → Type 0} (r : Run X) → Leads C IsSame r r
leads_self (ended e) = together (agrees_self e)
leads_self (takes es next) = answered (λ c i. c) (λ c i. i) (λ c i. leads_self (next c))

module _ {X Y Z : Type 0} {R : X → Y → Type 0} {S : Y → Z → Type 0} {T : X → Z → Type 0} (go : (x : X) (y : Y) (z : Z) → R x y → S y z → T x z) where
  ends_agree : {M : Type 0} {e : Evaluated X} {f : Evaluated Y} {i : Evaluated Z} → EndsAlike R e f → Agrees M S f i → Agrees M T e i
  ends_agree h (agree.lost m) = agree.lost m
  ends_agree (alike.value {x = x} {y = y} p) (agree.both {y = z} q) = agree.both (go x y z p q)
  ends_agree alike.failure agree.failed = agree.failed
  ends_agree alike.blocked agree.blocked = agree.blocked
  ends_agree alike.over agree.over = agree.over

  -- where the first looks like a second, which leads a third, it leads it too
  pub alike_leads : {C : Choice → Type 0} {u : Run Y} {w : Run Z} → Leads C S u w → {r : Run X} → RunsAlike R r u → Leads C T r w
  alike_leads lost_then h = lost_then
  alike_leads (together k) (alike.at_end h) = together (ends_agree h k)
  alike_leads stopped (alike.at_end alike.failure) = stopped
  alike_leads past (alike.at_end alike.over) = past
  alike_leads (answered answer fits g) (alike.later h) = answered answer fits (λ c i. alike_leads (g c i) (h (answer c i)))

-- ---- what is given up, and what is taken for targets

module _ (F : Rest) (c : Context) (formed : IsFormed c.program) (sc sd : Scene) (g : ScenesAgree c sc sd) (less_scene : FitsScene c.program.layout c.vars sc) (more_scene : FitsScene c.program.layout c.vars sd) where
  pub exhale_two : (list : List t.Assertion) → All (IsAssertion c) list → All HasNoWildcard list → (s w : State) → Under F s w → FitsState c.program.layout s → FitsState c.program.layout w →
      Leads (FitsChoice c.program.layout) (Under F) (exhale_all Unbounded c.program list s sc) (exhale_all Unbounded c.program list w sd)
  exhale_two list i n s w h less more =
      then_leads (leads_keep (consume_all_two F c formed.typed sc sd g list i n s w h s w h) (consume_all_fits Unbounded c formed list s sc s i less less less_scene) (consume_all_fits Unbounded c formed list w sd w i more more more_scene))
      (λ u z r. forget_two F c.program.layout u z r.0 r.1 r.2)

-- both take the same values
pub values_lead : {l : Layout} (us : List Ty) (xs : List ℕ) → Leads (FitsChoice l) (λ vs ws. (vs ≡ ws) × ValuesOf us xs vs × ValuesOf us xs ws) (taking_values us xs) (taking_values us xs)
values_lead {l} us xs = leads_keep (leads_self (taking_values us xs)) (taking_values_fits l us xs) (taking_values_fits l us xs)

-- ---- statements in one store

-- the forms that make no call and no loop, and have no statements inside
abbrev pub IsSimple : s.Stmt → Type 0
IsSimple (s.Call at targets m args) = ⊥
IsSimple (s.If at e first second) = ⊥
IsSimple (s.While l) = ⊥
IsSimple _ = ⊤

-- a method runs from this old state
abbrev pub from : MethodContext → State → Activation
from m u = record { program = m.program; vars = m.vars; old = u }

abbrev pub At : List Value → State → Configuration
At vs u = record { store = vs; state = u }

-- the same variables, and one state under the other
abbrev pub InOneStore : Rest → Configuration → Configuration → Type 0
InOneStore F c d = (c.store ≡ d.store) × Under F c.state d.state

module _ (m : MethodContext) (formed : IsFormed m.program) (older old : State) (olds : Close older old) (older_fits : FitsState m.program.layout older) (old_fits : FitsState m.program.layout old) where
  pub scenes_of : (sc : Scope) (vs ws : List Value) (at : Pos) → FitsStore m.vars vs → ((x : ℕ) → Contains sc.visible x → slice_get vs x ≡ slice_get ws x) →
      ScenesAgree (inside m sc) (record { store = vs; old = older; at = at }) (record { store = ws; old = old; at = at })
  scenes_of sc vs ws at fits seen = record { proper = scene_proper m.program.layout m.vars (record { store = vs; old = older; at = at }) (record { store = fits; old = older_fits }); seen = seen; old = λ allowed. olds }

  module _ (F : Rest) (sc : Scope) (vs : List Value) (fits : FitsStore m.vars vs) (u w : State) (h : Under F u w) (less : FitsState m.program.layout u) (more : FitsState m.program.layout w) (whole : HoldsAtMostWhole w) where
    agree_at : (at : Pos) → ScenesAgree (inside m sc) (scene (from m older) (At vs u) at) (scene (from m old) (At vs w) at)
    agree_at at = scenes_of sc vs vs at fits (λ x seen. refl)

    less_scene : (at : Pos) → FitsScene m.program.layout m.vars (scene (from m older) (At vs u) at)
    less_scene at = record { store = fits; old = older_fits }

    more_scene : (at : Pos) → FitsScene m.program.layout m.vars (scene (from m old) (At vs w) at)
    more_scene at = record { store = fits; old = old_fits }

    pub simple_core : (a : s.Stmt) → IsStmt m sc a → IsFramedStmt a → IsSimple a → Leads (FitsChoice m.program.layout) (InOneStore F) (run_stmt Unbounded (from m older) a (At vs u)) (run_stmt Unbounded (from m old) a (At vs w))
    simple_core (s.Var at x None) i n simple = found_leads (slice_get m.vars x) (λ y e. taking_leads (value_in y) (λ c j z g. before_leads (event.Took z ∷ []) (event.Took z ∷ []) (goes_leads (refl, h))))
    simple_core (s.Var at x (Some e)) (typing.initial fresh there i) n simple = same_leads (typed_value_two F (inside m sc) formed.typed u w _ _ h (agree_at at) i) (λ z. goes_leads (refl, h))
    simple_core (s.Assign at x e) (typing.assigns target i) n simple = same_leads (typed_value_two F (inside m sc) formed.typed u w _ _ h (agree_at at) i) (λ z. goes_leads (refl, h))
    simple_core (s.Write at e f place d) (typing.writes {u = y} i there j) n simple =
        same_leads (ref_two F (inside m sc) formed.typed u w _ _ h (agree_at at) i) (λ r.
        proper_leads (FitsValue y) (typed_value_two F (inside m sc) formed.typed u w _ _ h (agree_at at) j) (value_fits Unbounded (inside m sc) d y u (scene (from m older) (At vs u) at) formed j less (less_scene at)) (λ z fit.
        evaluating_leads (written_two F (scene (from m older) (At vs u) at) (scene (from m old) (At vs w) at) f place r z (proper_value z fit.reduced) whole h) (λ x y k. goes_leads (refl, k))))
    simple_core (s.New at x fields refs) i n simple = taking_leads fresh_in (λ c j r e. before_leads (event.Fresh r ∷ []) (event.Fresh r ∷ []) (new_two F m.program.layout u w h less more r refs vs fields (λ y z k. goes_leads (refl, k))))
    simple_core (s.Call at targets k args) i n simple = absurd simple
    simple_core (s.Inhale at a) i n simple = absurd n
    simple_core (s.Exhale at a) (typing.exhales i) n simple =
        then_leads (exhale_two F (inside m sc) formed (scene (from m older) (At vs u) at) (scene (from m old) (At vs w) at) (agree_at at) (less_scene at) (more_scene at) (a ∷ [])
        (All-cons (IsAssertion (inside m sc)) a [] i (All-nil (IsAssertion (inside m sc)))) (All-cons HasNoWildcard a [] n (All-nil HasNoWildcard)) u w h less more) (λ y z k. goes_leads (refl, k))
    simple_core (s.Assert at a) (typing.asserts i) n simple =
        then_leads (consume_two F (inside m sc) formed.typed (scene (from m older) (At vs u) at) (scene (from m old) (At vs w) at) (agree_at at) write amount_write u w h i n u w h) (λ left other l. goes_leads (refl, h))
    simple_core (s.Fold f) (typing.folds i) n simple = then_leads (fold_two F (inside m sc) formed.typed u w (scene (from m older) (At vs u) f.at) (scene (from m old) (At vs w) f.at) h (agree_at f.at) f i) (λ y z k. goes_leads (refl, k))
    simple_core (s.Unfold f) (typing.unfolds i) n simple = evaluating_leads (unfold_two F (inside m sc) formed.typed u w (scene (from m older) (At vs u) f.at) (scene (from m old) (At vs w) f.at) h (agree_at f.at) f i) (λ y z k. goes_leads (refl, k))
    simple_core (s.If at e first second) i n simple = absurd simple
    simple_core (s.While (s.loop at guard invariants body turn targets)) i n simple = absurd simple
