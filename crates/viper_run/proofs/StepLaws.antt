-- The statements by their forms, in the scene of their step.
use Rattle.std.proofs.Common.{◌≡◌, refl, sym, ap, ◌∙◌, ℕ, List, slice_set, Result, Ok, Err}
use Rattle.std.specs.Prelude.{⊤}
use Rattle.vb_base.specs.declared.places.Pos.{Pos}
use Rattle.vb_value.specs.Bound.{Bounded}
use Rattle.vb_value.specs.Fraction.{Fraction, write}
use Rattle.vb_value.specs.declared.values.Value.{Value}
use Rattle.viper_core.specs.Expr as t
use Rattle.viper_core.specs.Stmt as s
use Rattle.viper_state.specs.Run.{Feed, Scene}
use Rattle.viper_state.specs.State.{State}
use Rattle.viper_meaning.specs.Assertions.{produce, consume}
use Rattle.viper_meaning.specs.Contents.{fold_instance, unfold_instance}
use Rattle.viper_meaning.specs.Forgotten.{forget}
use Rattle.viper_meaning.specs.Run as run
use Rattle.viper_meaning.specs.Run.{Run, ended, evaluating, then_do}
use Rattle.viper_meaning.specs.Statements.{Activation, Configuration, scene, with_state, with_variable, field_written, run_stmt}
use Rattle.viper_meaning.specs.Value.{value, ref_in}
use Rattle.viper_meaning.proofs.ThenLaws.{then_then, then_is}
use Rattle.viper_eval.specs.Answers.{Answers}
use Rattle.viper_eval.specs.declared.answers.EvalHalt.{EvalHalt}
use Rattle.viper_inhale.specs.Answers.{Does, no_memory, goes, stops, run_halt}
use Rattle.viper_inhale.specs.declared.answers.StepHalt.{StepHalt}
use Rattle.viper_inhale.proofs.DoesLaws.{then_goes, then_stops, goes_at_once, same_run}
use Rattle.viper_inhale.proofs.FormLaws.{part_stops, part_goes, first_stops, both_go}

-- the end of a run, as part of another
pub ended_as : {X Y W : Type 0} {v : X → Y} {u : X → W} {f g : Feed} {r : Run Y} {q : Result X StepHalt} (h : Y → W) → ((x : X) → u x ≡ h (v x)) → Does v f r g q → Does u f (then_do r (λ y. run.goes (h y))) g q
ended_as h same no_memory = no_memory
ended_as {v = v} {f = f} {g = g} {r = r} h same (goes {x = x} e) = then_goes {v = v} {f = f} {m = g} {g = g} {r = r} (λ y. run.goes (h y)) (goes e) (goes_at_once (h (v x)) x (same x))
ended_as {v = v} {f = f} {g = g} {r = r} h same (stops e) = then_stops {v = v} {f = f} {g = g} {r = r} (λ y. run.goes (h y)) (stops e)

module _ (k : Activation) (c : Configuration) {at : Pos} {sc : Scene} (here : sc ≡ scene k c at) where
  pub inhaled : {f g : Feed} {q : Result ⊤ StepHalt} {scale : Fraction} (a : t.Assertion) (w : State) → scale ≡ write → Does (λ x. w) f (produce Bounded a sc scale c.state) g q → Does (λ x. with_state c w) f (run_stmt Bounded k (s.Inhale at a) c) g q
  inhaled a w whole h = ended_as (with_state c) (λ x. refl) (same_run (λ i. produce Bounded a (sym here i) (sym whole i) c.state) h)

  -- ---- exhale: what is left is made anew

  exhale_is : {start : State} {scale : Fraction} (a : t.Assertion) → start ≡ c.state → scale ≡ write →
      run_stmt Bounded k (s.Exhale at a) c ≡ then_do (consume Bounded a start sc scale c.state) (λ left. then_do (forget k.program.layout left) (λ s. run.goes (with_state c s)))
  exhale_is a begin whole =
      ap (λ r. then_do (then_do r (forget k.program.layout)) (λ s. run.goes (with_state c s))) (then_is (consume Bounded a c.state (scene k c at) write c.state))
      ∙ then_then (consume Bounded a c.state (scene k c at) write c.state) (forget k.program.layout) (λ s. run.goes (with_state c s))
      ∙ (λ i. then_do (consume Bounded a (sym begin i) (sym here i) (sym whole i) c.state) (λ left. then_do (forget k.program.layout left) (λ s. run.goes (with_state c s))))

  pub exhale_stops : {f g : Feed} {w : StepHalt} {start : State} {scale : Fraction} {X Z : Type 0} {v : X → State} {u : Z → Configuration} (a : t.Assertion) → start ≡ c.state → scale ≡ write → Does v f (consume Bounded a start sc scale c.state) g (Err w) →
      Does u f (run_stmt Bounded k (s.Exhale at a) c) g (Err w)
  exhale_stops {v = v} a begin whole h = first_stops {v = v} _ (exhale_is a begin whole) h

  pub exhaled : {f m g : Feed} {q : Result ⊤ StepHalt} {start left : State} {scale : Fraction} {x : ⊤} (a : t.Assertion) (w : State) → start ≡ c.state → scale ≡ write → Does (λ x. left) f (consume Bounded a start sc scale c.state) m (Ok x) →
      Does (λ x. w) m (forget k.program.layout left) g q → Does (λ x. with_state c w) f (run_stmt Bounded k (s.Exhale at a) c) g q
  exhaled a w begin whole h i = both_go _ (exhale_is a begin whole) h (ended_as (with_state c) (λ x. refl) i)

  -- ---- assert: the state stays

  pub checked : {f g : Feed} {q : Result ⊤ StepHalt} {start : State} {scale : Fraction} (a : t.Assertion) (w : State) → start ≡ c.state → scale ≡ write → Does (λ x. w) f (consume Bounded a c.state sc scale start) g q →
      Does (λ x. c) f (run_stmt Bounded k (s.Assert at a) c) g q
  checked a w begin whole h = ended_as (λ left. c) (λ x. refl) (same_run (λ i. consume Bounded a c.state (sym here i) (sym whole i) (sym begin i)) h)

  -- ---- assignments

  assign_is : (x : ℕ) (e : t.Expr) → run_stmt Bounded k (s.Assign at x e) c ≡ evaluating (value Bounded e c.state sc) (λ v. run.goes (with_variable c x v))
  assign_is x e i = evaluating (value Bounded e c.state (sym here i)) (λ v. run.goes (with_variable c x v))

  pub assign_stops : {Z : Type 0} {u : Z → Configuration} {f g : Feed} {w : EvalHalt} (x : ℕ) (e : t.Expr) → Answers {X = Value} (λ v. v) f.events (value Bounded e c.state sc) g.events (Err w) → g.left ≡ f.left →
      Does u f (run_stmt Bounded k (s.Assign at x e) c) g (Err (run_halt w))
  assign_stops x e h left = part_stops {X = Value} {v = λ v. v} (λ v. run.goes (with_variable c x v)) (assign_is x e) h left

  pub assigned : {f g : Feed} {v : Value} {z : ⊤} (x : ℕ) (e : t.Expr) (after : List Value) → after ≡ slice_set c.store x v → Answers (λ v. v) f.events (value Bounded e c.state sc) g.events (Ok v) → g.left ≡ f.left →
      Does (λ z. record { store = after; state = c.state }) f (run_stmt Bounded k (s.Assign at x e) c) g (Ok z)
  assigned {v = v} {z = z} x e after set h left =
      part_goes {v = λ v. v} (λ v. run.goes (with_variable c x v)) (assign_is x e) h left (goes_at_once (with_variable c x v) z (ap (λ st. record { store = st; state = c.state }) set))

  -- ---- writing a field

  module _ (e : t.Expr) (field : ℕ) (place : Pos) (d : t.Expr) where
    abbrev write_it : ℕ → Value → Run Configuration
    write_it r v = evaluating (field_written sc c.state field place r v) (λ s. run.goes (with_state c s))

    abbrev write_value : ℕ → Run Configuration
    write_value r = evaluating (value Bounded d c.state sc) (write_it r)

    write_is : run_stmt Bounded k (s.Write at e field place d) c ≡ evaluating (ref_in Bounded e c.state sc) write_value
    write_is i = evaluating (ref_in Bounded e c.state (sym here i)) (λ r. evaluating (value Bounded d c.state (sym here i)) (λ v. evaluating (field_written (sym here i) c.state field place r v) (λ s. run.goes (with_state c s))))

    pub receiver_stops : {Z : Type 0} {u : Z → Configuration} {f g : Feed} {w : EvalHalt} → Answers {X = ℕ} (λ r. r) f.events (ref_in Bounded e c.state sc) g.events (Err w) → g.left ≡ f.left →
        Does u f (run_stmt Bounded k (s.Write at e field place d) c) g (Err (run_halt w))
    receiver_stops h left = part_stops {X = ℕ} {v = λ r. r} write_value write_is h left

    module _ {f m : Feed} {r : ℕ} (receiver : Answers (λ r. r) f.events (ref_in Bounded e c.state sc) m.events (Ok r)) (left : m.left ≡ f.left) where
      pub side_stops : {Z : Type 0} {u : Z → Configuration} {g : Feed} {w : EvalHalt} → Answers {X = Value} (λ v. v) m.events (value Bounded d c.state sc) g.events (Err w) → g.left ≡ m.left →
          Does u f (run_stmt Bounded k (s.Write at e field place d) c) g (Err (run_halt w))
      side_stops h after = part_goes {v = λ r. r} write_value write_is receiver left (part_stops {X = Value} {v = λ v. v} (write_it r) refl h after)

      pub written : {Z : Type 0} {u : Z → Configuration} {n g : Feed} {v : Value} {q : Result Z StepHalt} → Answers (λ v. v) m.events (value Bounded d c.state sc) n.events (Ok v) → n.left ≡ m.left → Does u n (write_it r v) g q →
          Does u f (run_stmt Bounded k (s.Write at e field place d) c) g q
      written h after i = part_goes {v = λ r. r} write_value write_is receiver left (part_goes {v = λ v. v} (write_it r) refl h after i)

-- ---- fold and unfold

module _ (k : Activation) (c : Configuration) {f g : Feed} {q : Result ⊤ StepHalt} {sc : Scene} (d : s.FoldStmt) (here : sc ≡ scene k c d.at) (w : State) where
  pub folded : Does (λ x. w) f (fold_instance Bounded k.program d c.state sc) g q → Does (λ x. with_state c w) f (run_stmt Bounded k (s.Fold d) c) g q
  folded h = ended_as (with_state c) (λ x. refl) (same_run (λ i. fold_instance Bounded k.program d c.state (sym here i)) h)

  pub unfolded : Does (λ x. w) f (ended (unfold_instance Bounded k.program d c.state sc)) g q → Does (λ x. with_state c w) f (run_stmt Bounded k (s.Unfold d) c) g q
  unfolded h = ended_as (with_state c) (λ x. refl) (same_run (λ i. ended (unfold_instance Bounded k.program d c.state (sym here i))) h)
