-- Clauses are asserted, and then something is done.
use Rattle.std.proofs.Common.{◌≡◌, sym, ◌∙◌, ℕ, List, Ok, Err}
use Rattle.std.specs.Prelude.{⊤}
use Rattle.vb_value.specs.Bound.{Bounded}
use Rattle.viper_core.specs.Expr as t
use Rattle.viper_state.specs.Run.{Feed, Scene}
use Rattle.viper_state.specs.State.{State}
use Rattle.viper_meaning.specs.Run as m
use Rattle.viper_meaning.specs.Run.{Run, then_do}
use Rattle.viper_meaning.specs.Statements.{consume_all}
use Rattle.viper_meaning.proofs.ThenLaws.{then_then, then_same, goes_then}
use Rattle.viper_inhale.specs.Answers.{Does}
use Rattle.viper_inhale.specs.declared.answers.StepHalt.{StepHalt}
use Rattle.viper_exec_meaning.specs.Execution.{Went, asserting}
use Rattle.viper_exec.specs.declared.answers.Quit.TheVariants as quit
use Rattle.viper_exec.specs.Answers.{Executes}
use Rattle.viper_exec.specs.Steps.{asserted}
use Rattle.viper_exec.proofs.TakesLaws.{Reaches, first_goes, first_stops}

done : ⊤
done = tt

asserted_then : {X : Type 0} (clauses : List t.Assertion) (st : State) (sc : Scene) (go : Run X) → asserting Bounded clauses st sc go ≡ then_do (asserted clauses st sc) (λ u. go)
asserted_then clauses st sc go = sym (then_then (consume_all Bounded clauses st sc st) (λ left. m.goes done) (λ u. go) ∙ then_same (consume_all Bounded clauses st sc st) (λ left. goes_then done (λ u. go)))

module _ (clauses : List t.Assertion) (st : State) (sc : Scene) {X : Type 0} {r : ℕ → Run (Went X)} (go : ℕ → Run (Went X)) (same : (k : ℕ) → r k ≡ asserting Bounded clauses st sc (go k)) where
  to_go : (k : ℕ) → r k ≡ then_do (asserted clauses st sc) (λ u. go k)
  to_go k = same k ∙ asserted_then clauses st sc (go k)

  pub asserts : {f g : Feed} (n : ℕ) {x : ⊤} → Does (λ x. x) f (asserted clauses st sc) g (Ok x) → Reaches f n r g n go
  asserts n h = first_goes n (λ k u. go k) to_go h

  pub assert_stops : {f g : Feed} (n : ℕ) {Z : Type 0} {u : Z → X} {w : StepHalt} → Does {X = ⊤} (λ x. x) f (asserted clauses st sc) g (Err w) → Executes u f n r g n (Err (quit.Halts w))
  assert_stops n h = first_stops n (λ k u. go k) to_go h
