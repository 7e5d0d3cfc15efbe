-- What the parts of a loop leave, so that its run can go on.
use Rattle.std.proofs.Common.{ℕ, zero, suc, true, List, [], ◌∷◌, All, slice_set}
use Rattle.std.specs.Prelude.{⊤}
use Rattle.std.proofs.lemmas.List.Elements.{All-nil, All-head, All-tail, All-cons}
use Rattle.vb_base.specs.declared.places.Pos.{Pos}
use Rattle.vb_value.specs.Bound.{Bounded}
use Rattle.vb_value.specs.Content.{IsWithinContent}
use Rattle.vb_value.specs.Fraction.{IsWithinFraction}
use Rattle.vb_value.specs.Key.{IsWithinKey}
use Rattle.vb_value.specs.Value.{IsWithinValue}
use Rattle.vb_value.specs.declared.values.Value.{Value}
use Rattle.viper_core.specs.Expr as t
use Rattle.viper_core.specs.Literals.{IsWithinAssertion, IsWithinExpr}
use Rattle.viper_state.specs.Fits.{HasMaps}
use Rattle.viper_state.specs.Run.{Scene}
use Rattle.viper_state.specs.State.{State}
use Rattle.viper_state.specs.Within.{IsWithinChoice, IsWithinEvent, IsWithinState, IsWithinScene}
use Rattle.viper_meaning.specs.Configurations.{IsWithinConfiguration}
use Rattle.viper_meaning.specs.Kept.{IsAny, Keeps}
use Rattle.viper_meaning.specs.KeptRuns.{KeepsRun, at_end}
use Rattle.viper_meaning.specs.Statements.{Activation, Configuration, scene, stored}
use Rattle.viper_meaning.specs.Value.{truth_in}
use Rattle.viper_meaning.proofs.ClosedLaws.{within_closed}
use Rattle.viper_meaning.proofs.KeptLaws.{is_kept, blocks_kept}
use Rattle.viper_meaning.proofs.RunKeptLaws.{evaluating_kept, then_do_kept, if_run_kept, truth_in_kept}
use Rattle.viper_meaning.proofs.ShapeLaws.{produce_all_shape, exhale_all_shape}
use Rattle.viper_meaning.proofs.StateKeptLaws.{OfState, then_any, values_any}
use Rattle.viper_meaning.proofs.StatementKeptLaws.{produce_all_within, exhale_all_within, taking_values_within, state_within}
use Rattle.viper_run.specs.Steps.{loop_entered, guarded, turn_begun}
use Rattle.viper_run.proofs.StartLaws.{state_shape}

set_within : (xs : List Value) (n : ℕ) (x : Value) → All IsWithinValue xs → IsWithinValue x → All IsWithinValue (slice_set xs n x)
set_within [] n x h p = All-nil IsWithinValue
set_within (y ∷ xs) zero x h p = All-cons IsWithinValue x xs p (All-tail IsWithinValue y xs h)
set_within (y ∷ xs) (suc n) x h p = All-cons IsWithinValue y (slice_set xs n x) (All-head IsWithinValue y xs h) (set_within xs n x (All-tail IsWithinValue y xs h) p)

pub stored_within : (store : List Value) (xs : List ℕ) (vs : List Value) → All IsWithinValue store → All IsWithinValue vs → All IsWithinValue (stored store xs vs)
stored_within store [] vs h g = h
stored_within store (x ∷ xs) [] h g = h
stored_within store (x ∷ xs) (v ∷ vs) h g = stored_within (slice_set store x v) xs vs (set_within store x v h (All-head IsWithinValue v vs g)) (All-tail IsWithinValue v vs g)

truth_within : (e : t.Expr) (s : State) (sc : Scene) → IsWithinExpr e → IsWithinState s → IsWithinScene sc → Keeps IsWithinEvent IsAny (truth_in Bounded e s sc)
truth_within e s sc w h g = truth_in_kept Bounded IsWithinFraction (λ q. ⊤) IsWithinValue IsWithinKey IsWithinContent within_closed e s sc w h g

module _ (k : Activation) (old : IsWithinState k.old) (at : Pos) (invariants : List t.Assertion) (clauses : All IsWithinAssertion invariants) where
  pub entered_within : (targets : List ℕ) (c : Configuration) → IsWithinConfiguration c → KeepsRun IsWithinEvent IsWithinChoice IsWithinConfiguration (loop_entered k at invariants targets c)
  entered_within targets c h =
      then_do_kept (exhale_all_within k.program invariants c.state (scene k c at) clauses h.state (record { store = h.store; old = old })) (λ s i. then_do_kept (taking_values_within k.vars targets) (λ vs j.
      at_end (is_kept (record { store = stored_within c.store targets vs h.store j; state = i }))))

  pub guarded_within : (guard : t.Expr) (c : Configuration) (any : State) → IsWithinExpr guard → All IsWithinValue c.store → IsWithinState any →
      KeepsRun IsWithinEvent IsWithinChoice IsWithinConfiguration (guarded true k at guard invariants c any)
  guarded_within guard c any w h i =
      then_do_kept (produce_all_within invariants (scene k c at) any clauses i (record { store = h; old = old })) (λ s j.
      evaluating_kept (truth_within guard s (scene k c at) w j (record { store = h; old = old })) (λ holds u. if_run_kept holds (at_end (is_kept (record { store = h; state = j }))) (at_end blocks_kept)))

  pub begun_within : (guard : t.Expr) (c : Configuration) → IsWithinExpr guard → All IsWithinValue c.store → KeepsRun IsWithinEvent IsWithinChoice IsWithinConfiguration (turn_begun k at guard invariants c)
  begun_within guard c w h = state_within k.program (λ any i. guarded_within guard c any w h i)

module _ (k : Activation) (at : Pos) (invariants : List t.Assertion) where
  pub entered_shape : (targets : List ℕ) (c : Configuration) → HasMaps k.program.layout c.state → KeepsRun IsAny IsAny (OfState (HasMaps k.program.layout)) (loop_entered k at invariants targets c)
  entered_shape targets c h = then_do_kept (exhale_all_shape Bounded k.program invariants c.state (scene k c at) h) (λ s i. then_do_kept (values_any k.vars targets) (λ vs j. at_end (is_kept i)))

  pub guarded_shape : (guard : t.Expr) (c : Configuration) (any : State) → HasMaps k.program.layout any → KeepsRun IsAny IsAny (OfState (HasMaps k.program.layout)) (guarded true k at guard invariants c any)
  guarded_shape guard c any h =
      then_do_kept (produce_all_shape Bounded k.program invariants (scene k c at) any h) (λ s i.
      then_any (truth_in Bounded guard s (scene k c at)) (λ holds. if_run_kept holds (at_end (is_kept i)) (at_end blocks_kept)))

  pub begun_shape : (guard : t.Expr) (c : Configuration) → KeepsRun IsAny IsAny (OfState (HasMaps k.program.layout)) (turn_begun k at guard invariants c)
  begun_shape guard c = state_shape k.program (λ any h. guarded_shape guard c any h)
