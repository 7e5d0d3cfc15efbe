-- The run of an assertion by what the assertion is, and what producing keeps.
use Rattle.std.proofs.Common.{◌≡◌, sym, ap, Bool, [], All, Result, Ok, Err, if◌then◌else◌}
use Rattle.std.specs.Prelude.{⊤}
use Rattle.vb_base.specs.declared.places.Pos.{Pos}
use Rattle.vb_value.specs.Bound.{Bounded}
use Rattle.vb_value.specs.Fraction.{Fraction}
use Rattle.viper_core.specs.Expr as t
use Rattle.viper_core.specs.Literals.{IsWithinAssertion}
use Rattle.viper_state.specs.Run.{Feed, Scene}
use Rattle.viper_state.specs.State.{State}
use Rattle.viper_state.specs.Within.{IsWithinChoice, IsWithinEvent, IsWithinState, IsWithinScene}
use Rattle.viper_meaning.specs.Assertions.{produce_amount, produce, consume_amount, consume}
use Rattle.viper_meaning.specs.Ends.{ends, is, blocks}
use Rattle.viper_meaning.specs.Resource.{Resource}
use Rattle.viper_meaning.proofs.RunWithinLaws.{produce_within}
use Rattle.viper_eval.specs.Answers.{Answers, stopped}
use Rattle.viper_eval.specs.Steps.{assumed}
use Rattle.viper_eval.specs.declared.answers.EvalStop.{EvalStop}
use Rattle.viper_eval.specs.declared.answers.EvalHalt.TheVariants as halt
use Rattle.viper_eval.proofs.AnswerLaws.{if_so, if_not, ends_is, stops_with, assumed_holds, assumed_fails}
use Rattle.viper_inhale.specs.Answers.{Does}
use Rattle.viper_inhale.specs.declared.answers.StepHalt.{StepHalt}
use Rattle.viper_inhale.specs.declared.resources.PlacedScale.{PlacedScale}
use Rattle.viper_inhale.proofs.DoesLaws.{same_run, does_keep}

-- ---- what is assumed

module _ {Z : Type 0} {u : Z → State} (s : State) (holds : Bool) where
  pub fact_goes : (x : ⊤) (z : Z) → is x ≡ assumed holds → u z ≡ s → Answers u [] (if holds then is s else blocks) [] (Ok z)
  fact_goes x z h same = if_so holds _ _ (assumed_holds holds x h) (ends_is s z same)

  pub fact_fails : (w : EvalStop) → ends [] (stopped w) ≡ assumed holds → Answers u [] (if holds then is s else blocks) [] (Err (halt.Stops w))
  fact_fails w h = let no = assumed_fails holds w h in if_not holds _ _ no.0 (stops_with w (ap (λ w. ends [] (stopped w)) no.1))

-- ---- an amount, with what was put together for the call

module _ {Z : Type 0} {u : Z → State} {f g : Feed} {q : Result Z StepHalt} {k : Fraction} {at : Pos} {share : PlacedScale} (same : share ≡ record { scale = k; at = at }) where
  pub produced_share : (m : t.Amt) (sc : Scene) (s : State) (x : Resource) → Does u f (produce_amount Bounded m sc share.scale share.at s x) g q → Does u f (produce_amount Bounded m sc k at s x) g q
  produced_share m sc s x = same_run (λ i. produce_amount Bounded m sc (sym same i).scale (sym same i).at s x)

  pub consumed_share : (m : t.Amt) (start : State) (sc : Scene) (left : State) (x : Resource) → Does u f (consume_amount Bounded m start sc share.scale share.at left x) g q →
      Does u f (consume_amount Bounded m start sc k at left x) g q
  consumed_share m start sc left x = same_run (λ i. consume_amount Bounded m start sc (sym same i).scale (sym same i).at left x)

-- ---- the same for what the same assertion is

module _ (sc : Scene) (k : Fraction) (s : State) where
  pub produced_amount : (at : Pos) (x : Resource) {m n : t.Amt} → m ≡ n → produce_amount Bounded m sc k at s x ≡ produce_amount Bounded n sc k at s x
  produced_amount at x = ap (λ m. produce_amount Bounded m sc k at s x)

  pub produced : {a b : t.Assertion} → a ≡ b → produce Bounded a sc k s ≡ produce Bounded b sc k s
  produced = ap (λ a. produce Bounded a sc k s)

  pub produced_within : {Z : Type 0} {v : Z → State} {f g : Feed} {z : Z} (a : t.Assertion) → IsWithinAssertion a → IsWithinState s → IsWithinScene sc → All IsWithinChoice f.left →
      Does v f (produce Bounded a sc k s) g (Ok z) → IsWithinState (v z) × All IsWithinChoice g.left
  produced_within a w h i = does_keep {E = IsWithinEvent} {C = IsWithinChoice} {P = IsWithinState} (produce_within a sc k s w h i)

module _ (start : State) (sc : Scene) (k : Fraction) (left : State) where
  pub consumed_amount : (at : Pos) (x : Resource) {m n : t.Amt} → m ≡ n → consume_amount Bounded m start sc k at left x ≡ consume_amount Bounded n start sc k at left x
  consumed_amount at x = ap (λ m. consume_amount Bounded m start sc k at left x)

  pub consumed : {a b : t.Assertion} → a ≡ b → consume Bounded a start sc k left ≡ consume Bounded b start sc k left
  consumed = ap (λ a. consume Bounded a start sc k left)
