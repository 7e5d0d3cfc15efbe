-- A step of a run by its form: one lemma for each exit of a form.
use Rattle.std.proofs.Common.{◌≡◌, refl, sym, subst, [], Bool, true, false, Result, Ok, Err, if◌then◌else◌}
use Rattle.vb_value.specs.Fraction.{Fraction}
use Rattle.viper_state.specs.Run.{Feed}
use Rattle.viper_meaning.specs.Ends.{Evaluated, ends, is, then_with}
use Rattle.viper_meaning.specs.Run as run
use Rattle.viper_meaning.specs.Run.{Run, ended, evaluating, then_do, taking_amount}
use Rattle.viper_eval.specs.Answers.{Answers, stopped}
use Rattle.viper_eval.specs.declared.answers.EvalStop.{EvalStop}
use Rattle.viper_eval.specs.declared.answers.EvalHalt.TheVariants as halt
use Rattle.viper_eval.specs.declared.answers.EvalHalt.{EvalHalt}
use Rattle.viper_eval.proofs.AnswerLaws.{ends_with, stops_with, goes_then, stops_then, calmly}
use Rattle.viper_inhale.specs.Answers.{run_halt, Does}
use Rattle.viper_inhale.specs.declared.answers.StepHalt.{StepHalt}
use Rattle.viper_inhale.proofs.DoesLaws.{same_run, ended_goes, ended_stops, then_goes, then_stops, evaluated_goes, evaluated_stops, amount_goes, amount_stops}

module _ {X Y Z W : Type 0} {v : X → Y} {u : Z → W} where
  -- ---- a reading, and then a step that records nothing and takes no choice

  module _ {e : Evaluated Y} (go : Y → Evaluated W) {r : Run W} {f m : Feed} (same : r ≡ ended (then_with e go)) where
    pub read_stops : {w : EvalHalt} → Answers v f.events e m.events (Err w) → m.left ≡ f.left → Does u f r m (Err (run_halt w))
    read_stops h left = same_run same (ended_stops {v = u} {f = f} {g = m} (stops_then go h) left)

    pub step_stops : {x : X} {w : EvalHalt} → Answers v f.events e m.events (Ok x) → m.left ≡ f.left → Answers u [] (go (v x)) [] (Err w) → Does u f r m (Err (run_halt w))
    step_stops h left i = same_run same (ended_stops {v = u} {f = f} {g = m} (goes_then go h (calmly m.events i)) left)

    pub step_goes : {x : X} {z : Z} → Answers v f.events e m.events (Ok x) → m.left ≡ f.left → Answers u [] (go (v x)) [] (Ok z) → Does u f r m (Ok z)
    step_goes h left i = same_run same (ended_goes {v = u} {f = f} {g = m} (goes_then go h (calmly m.events i)) left)

  -- ---- a reading, and then a run

  module _ {e : Evaluated Y} (go : Y → Run W) {r : Run W} {f m : Feed} (same : r ≡ evaluating e go) where
    pub part_stops : {w : EvalHalt} → Answers v f.events e m.events (Err w) → m.left ≡ f.left → Does u f r m (Err (run_halt w))
    part_stops h left = same_run same (evaluated_stops {v = v} {u = u} {f = f} {g = m} go h left)

    pub part_goes : {g : Feed} {x : X} {q : Result Z StepHalt} → Answers v f.events e m.events (Ok x) → m.left ≡ f.left → Does u m (go (v x)) g q → Does u f r g q
    part_goes {g = g} h left i = same_run same (evaluated_goes {v = v} {u = u} {f = f} {m = m} {g = g} go h left i)

  -- ---- a run, and then a run

  module _ {first : Run Y} (go : Y → Run W) {r : Run W} {f m : Feed} (same : r ≡ then_do first go) where
    pub first_stops : {w : StepHalt} → Does v f first m (Err w) → Does u f r m (Err w)
    first_stops h = same_run same (then_stops {v = v} {u = u} {f = f} {g = m} go h)

    pub both_go : {g : Feed} {x : X} {q : Result Z StepHalt} → Does v f first m (Ok x) → Does u m (go (v x)) g q → Does u f r g q
    both_go {g = g} h i = same_run same (then_goes {v = v} {u = u} {f = f} {m = m} {g = g} go h i)

-- ---- a step that records nothing and takes no choice, and then a run

module _ {Y Z W : Type 0} {u : Z → W} {e : Evaluated Y} (go : Y → Run W) {r : Run W} {f : Feed} (same : r ≡ evaluating e go) where
  pub calm_stops : (w : EvalStop) → ends [] (stopped w) ≡ e → Does u f r f (Err (run_halt (halt.Stops w)))
  calm_stops w h = part_stops {X = Y} {v = λ y. y} {u = u} go {f = f} {m = f} same (stops_with w h) refl

  pub calm_goes : {g : Feed} {y : Y} {q : Result Z StepHalt} → is y ≡ e → Does u f (go y) g q → Does u f r g q
  calm_goes {g = g} {y = y} h i = part_goes {v = λ y. y} {u = u} go {f = f} {m = f} same {g = g} (ends_with y h) refl i

-- ---- a condition, and then one of two runs

module _ {Z W : Type 0} {u : Z → W} {e : Evaluated Bool} (yes no : Run W) {r : Run W} {f m g : Feed} (same : r ≡ evaluating e (λ holds. if holds then yes else no)) where
  pub so_goes : {holds : Bool} {q : Result Z StepHalt} → Answers (λ b. b) f.events e m.events (Ok holds) → m.left ≡ f.left → holds ≡ true → Does u m yes g q → Does u f r g q
  so_goes {q = q} h left so i = part_goes {v = λ b. b} {u = u} (λ holds. if holds then yes else no) {f = f} {m = m} same {g = g} h left (subst (λ b. Does u m (if b then yes else no) g q) (sym so) i)

  pub not_goes : {holds : Bool} {q : Result Z StepHalt} → Answers (λ b. b) f.events e m.events (Ok holds) → m.left ≡ f.left → holds ≡ false → Does u m no g q → Does u f r g q
  not_goes {q = q} h left so i = part_goes {v = λ b. b} {u = u} (λ holds. if holds then yes else no) {f = f} {m = m} same {g = g} h left (subst (λ b. Does u m (if b then yes else no) g q) (sym so) i)

-- ---- an amount that is taken, and then a step that records nothing and takes no choice

module _ {Z W : Type 0} {u : Z → W} (go : Fraction → Evaluated W) {r : Run W} {f m : Feed} (same : r ≡ taking_amount (λ q. ended (go q))) where
  pub choice_stops : {w : StepHalt} → Does {X = Fraction} (λ q. q) f (taking_amount run.goes) m (Err w) → Does u f r m (Err w)
  choice_stops h = same_run same (amount_stops {u = u} {f = f} {g = m} (λ q. ended (go q)) h)

  pub chosen_stops : {q : Fraction} {w : EvalHalt} → Does (λ q. q) f (taking_amount run.goes) m (Ok q) → Answers u [] (go q) [] (Err w) → Does u f r m (Err (run_halt w))
  chosen_stops h i = same_run same (amount_goes {u = u} {f = f} {m = m} {g = m} (λ q. ended (go q)) h (ended_stops {v = u} {f = m} {g = m} (calmly m.events i) refl))

  pub chosen_goes : {q : Fraction} {z : Z} → Does (λ q. q) f (taking_amount run.goes) m (Ok q) → Answers u [] (go q) [] (Ok z) → Does u f r m (Ok z)
  chosen_goes h i = same_run same (amount_goes {u = u} {f = f} {m = m} {g = m} (λ q. ended (go q)) h (ended_goes {v = u} {f = m} {g = m} (calmly m.events i) refl))
