-- The parts of a loop by their forms, in the scene of their step.
use Rattle.std.proofs.Common.{◌≡◌, refl, sym, ap, ℕ, Bool, true, false, not, List, [], Ok, Err, if◌then◌else◌}
use Rattle.std.specs.Prelude.{⊤}
use Rattle.vb_base.specs.declared.places.Pos.{Pos}
use Rattle.vb_value.specs.Bound.{Bounded}
use Rattle.vb_value.specs.declared.values.Value.{Value}
use Rattle.viper_core.specs.Expr as t
use Rattle.viper_state.specs.Run.{Feed, Scene}
use Rattle.viper_state.specs.State.{State}
use Rattle.viper_meaning.specs.Ends.{ends, is}
use Rattle.viper_meaning.specs.Run as run
use Rattle.viper_meaning.specs.Run.{Run, evaluating, then_do}
use Rattle.viper_meaning.specs.Statements.{Activation, Configuration, scene, stored, with_state, taking_values, produce_all, exhale_all}
use Rattle.viper_meaning.specs.Value.{truth_in}
use Rattle.viper_eval.specs.Answers.{Answers, stopped}
use Rattle.viper_eval.specs.Steps.{assumed}
use Rattle.viper_eval.specs.declared.answers.EvalStop.{EvalStop}
use Rattle.viper_eval.specs.declared.answers.EvalHalt.TheVariants as halt
use Rattle.viper_eval.specs.declared.answers.EvalHalt.{EvalHalt}
use Rattle.viper_inhale.specs.Answers.{Does, run_halt}
use Rattle.viper_inhale.specs.declared.answers.StepHalt.{StepHalt}
use Rattle.viper_inhale.proofs.DoesLaws.{goes_at_once}
use Rattle.viper_inhale.proofs.FormLaws.{part_stops, part_goes, first_stops, both_go, calm_stops, calm_goes}
use Rattle.viper_run.specs.Steps.{loop_entered, goes_when, guarded}

-- to go on where something is so is to assume it
when_assumed : {X : Type 0} (wanted holds : Bool) (x : X) → goes_when wanted holds x ≡ evaluating (assumed (if wanted then holds else not holds)) (λ u. run.goes x)
when_assumed true true x = refl
when_assumed true false x = refl
when_assumed false true x = refl
when_assumed false false x = refl

module _ (k : Activation) (c : Configuration) {at : Pos} {sc : Scene} (here : sc ≡ scene k c at) {listed : List t.Assertion} (invariants : List t.Assertion) (same : listed ≡ invariants) where
  -- ---- before the loop

  module _ (targets : List ℕ) {chosen : List ℕ} (same_targets : chosen ≡ targets) where
    abbrev take_values : State → Run Configuration
    take_values s = then_do (taking_values k.vars chosen) (λ vs. run.goes (record { store = stored c.store targets vs; state = s }))

    entered_is : loop_entered k at invariants targets c ≡ then_do (exhale_all Bounded k.program listed c.state sc) take_values
    entered_is i = then_do (exhale_all Bounded k.program (sym same i) c.state (sym here i)) (λ s. then_do (taking_values k.vars (sym same_targets i)) (λ vs. run.goes (record { store = stored c.store targets vs; state = s })))

    pub giving_stops : {X Z : Type 0} {v : X → State} {u : Z → Configuration} {f g : Feed} {w : StepHalt} → Does v f (exhale_all Bounded k.program listed c.state sc) g (Err w) → Does u f (loop_entered k at invariants targets c) g (Err w)
    giving_stops {v = v} h = first_stops {v = v} take_values entered_is h

    module _ {f m : Feed} (s : State) {x : ⊤} (given : Does (λ x. s) f (exhale_all Bounded k.program listed c.state sc) m (Ok x)) where
      pub values_stop : {Z : Type 0} {u : Z → Configuration} {g : Feed} {w : StepHalt} {X : Type 0} {v : X → List Value} → Does v m (taking_values k.vars chosen) g (Err w) → Does u f (loop_entered k at invariants targets c) g (Err w)
      values_stop {v = v} h = both_go {v = λ x. s} take_values entered_is given (first_stops {v = v} (λ vs. run.goes (record { store = stored c.store targets vs; state = s })) refl h)

      pub entered : {X : Type 0} {v : X → List Value} {g : Feed} {y : X} {z : ⊤} (after : List Value) → after ≡ stored c.store targets (v y) → Does v m (taking_values k.vars chosen) g (Ok y) →
          Does (λ z. record { store = after; state = s }) f (loop_entered k at invariants targets c) g (Ok z)
      entered {v = v} {y = y} {z = z} after set h =
          both_go {v = λ x. s} take_values entered_is given (both_go {v = v} (λ vs. run.goes (record { store = stored c.store targets vs; state = s })) refl h
          (goes_at_once (record { store = stored c.store targets (v y); state = s }) z (ap (λ st. record { store = st; state = s }) set)))

  -- ---- the invariant is produced, and it is assumed that the guard holds, or that it does not

  module _ (wanted : Bool) (guard : t.Expr) where
    abbrev if_so : State → Run Configuration
    if_so s = evaluating (truth_in Bounded guard s sc) (λ holds. goes_when wanted holds (with_state c s))

    guarded_is : guarded wanted k at guard invariants c c.state ≡ then_do (produce_all Bounded listed sc c.state) if_so
    guarded_is i = then_do (produce_all Bounded (sym same i) (sym here i) c.state) (λ s. evaluating (truth_in Bounded guard s (sym here i)) (λ holds. goes_when wanted holds (with_state c s)))

    pub guarded_stops : {X Z : Type 0} {v : X → State} {u : Z → Configuration} {f g : Feed} {w : StepHalt} → Does v f (produce_all Bounded listed sc c.state) g (Err w) →
        Does u f (guarded wanted k at guard invariants c c.state) g (Err w)
    guarded_stops {v = v} h = first_stops {v = v} if_so guarded_is h

    module _ {f m : Feed} (s : State) {x : ⊤} (produced : Does (λ x. s) f (produce_all Bounded listed sc c.state) m (Ok x)) where
      pub guard_stops : {Z : Type 0} {u : Z → Configuration} {g : Feed} {w : EvalHalt} → Answers {X = Bool} (λ b. b) m.events (truth_in Bounded guard s sc) g.events (Err w) → g.left ≡ m.left →
          Does u f (guarded wanted k at guard invariants c c.state) g (Err (run_halt w))
      guard_stops h left = both_go {v = λ x. s} if_so guarded_is produced (part_stops {X = Bool} {v = λ b. b} _ refl h left)

      pub guard_blocks : {Z : Type 0} {u : Z → Configuration} {g : Feed} {holds : Bool} (w : EvalStop) → Answers (λ b. b) m.events (truth_in Bounded guard s sc) g.events (Ok holds) → g.left ≡ m.left →
          ends [] (stopped w) ≡ assumed (if wanted then holds else not holds) → Does u f (guarded wanted k at guard invariants c c.state) g (Err (run_halt (halt.Stops w)))
      guard_blocks {holds = holds} w h left i = both_go {v = λ x. s} if_so guarded_is produced (part_goes {v = λ b. b} _ refl h left (calm_stops (λ x. run.goes (with_state c s)) (when_assumed wanted holds (with_state c s)) w i))

      pub guard_goes : {g : Feed} {holds : Bool} {z : ⊤} → Answers (λ b. b) m.events (truth_in Bounded guard s sc) g.events (Ok holds) → g.left ≡ m.left → is tt ≡ assumed (if wanted then holds else not holds) →
          Does (λ z. with_state c s) f (guarded wanted k at guard invariants c c.state) g (Ok z)
      guard_goes {holds = holds} {z = z} h left i = both_go {v = λ x. s} if_so guarded_is produced (part_goes {v = λ b. b} _ refl h left
          (calm_goes (λ x. run.goes (with_state c s)) (when_assumed wanted holds (with_state c s)) i (goes_at_once (with_state c s) z refl)))
