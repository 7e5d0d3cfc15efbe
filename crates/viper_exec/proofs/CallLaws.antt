-- A call until the body begins, in the parts that the code has in functions of their own.
use Rattle.std.proofs.Common.{◌≡◌, refl, sym, ap, ◌∙◌, arith, ℕ, suc, ◌+◌, ◌-◌, ◌<◌, List, [], ◌∷◌, ◌++◌, append_assoc, Result, Ok, Err}
use Rattle.std.specs.List.{range_with_len}
use Rattle.std.specs.Prelude.{⊤}
use Rattle.vb_value.specs.Bound.{Bounded}
use Rattle.vb_value.specs.declared.values.Ty.{Ty}
use Rattle.vb_value.specs.declared.values.Value.{Value}
use Rattle.viper_core.specs.Expr as t
use Rattle.viper_core.specs.Program.{Method}
use Rattle.viper_state.specs.Run.{Feed, Scene}
use Rattle.viper_state.specs.State.{State}
use Rattle.viper_meaning.specs.Run as run
use Rattle.viper_meaning.specs.Run.{then_do}
use Rattle.viper_meaning.specs.Statements.{consume_all, taking_values}
use Rattle.viper_meaning.proofs.ThenLaws.{then_then, then_same, goes_then}
use Rattle.viper_inhale.specs.Answers.{Does}
use Rattle.viper_inhale.specs.declared.answers.StepHalt.{StepHalt}
use Rattle.viper_inhale.proofs.DoesLaws.{goes_at_once}
use Rattle.viper_inhale.proofs.FormLaws.{first_stops, both_go}
use Rattle.viper_exec_meaning.specs.Execution.{returns_in}
use Rattle.viper_exec.specs.Steps.{asserted, returns_taken, call_begun}

-- ---- the numbers of the returns

range_from : (i n : ℕ) → range_with_len i (suc n) ≡ i ∷ range_with_len (i + 1) n
range_from i n = refl

pub one_more : (so_far : List ℕ) (i end : ℕ) {after all : List ℕ} → i < end → after ≡ so_far ++ i ∷ [] → so_far ++ range_with_len i (end - i) ≡ all → after ++ range_with_len (i + 1) (end - (i + 1)) ≡ all
one_more so_far i end lt more so =
    let next : end - i ≡ suc (end - (i + 1)) = omega (arith, lt) in
    ap (λ xs. xs ++ range_with_len (i + 1) (end - (i + 1))) more ∙ append_assoc so_far (i ∷ []) (range_with_len (i + 1) (end - (i + 1))) ∙ sym (ap (λ n. so_far ++ range_with_len i n) next) ∙ so

-- ---- the returns take values

module _ (m : Method) (args : List Value) {us : List Ty} {xs : List ℕ} (typed : us ≡ m.vars) (numbers : xs ≡ returns_in m) where
  taken_is : returns_taken m args ≡ then_do (taking_values us xs) (λ vs. run.goes (args ++ vs))
  taken_is i = then_do (taking_values (sym typed i) (sym numbers i)) (λ vs. run.goes (args ++ vs))

  pub values_stop : {X Z : Type 0} {v : X → List Value} {u : Z → List Value} {f g : Feed} {w : StepHalt} → Does v f (taking_values us xs) g (Err w) → Does u f (returns_taken m args) g (Err w)
  values_stop {v = v} h = first_stops {v = v} (λ vs. run.goes (args ++ vs)) taken_is h

  pub values_taken : {X Z : Type 0} {v : X → List Value} {u : Z → List Value} {f g : Feed} {x : X} (z : Z) → u z ≡ args ++ v x → Does v f (taking_values us xs) g (Ok x) → Does u f (returns_taken m args) g (Ok z)
  values_taken {v = v} {x = x} z same h = both_go {v = v} (λ vs. run.goes (args ++ vs)) taken_is h (goes_at_once (args ++ v x) z same)

-- ---- the precondition is asserted, and then the returns take values

module _ (m : Method) (args : List Value) (s : State) {sc sd : Scene} {asked : List t.Assertion} (here : sc ≡ sd) (all_asked : asked ≡ m.preconditions) where
  done : ⊤
  done = tt

  begun_is : call_begun m args sd s ≡ then_do (asserted asked s sc) (λ u. returns_taken m args)
  begun_is =
      sym (then_then (consume_all Bounded m.preconditions s sd s) (λ left. run.goes done) (λ u. returns_taken m args) ∙ then_same (consume_all Bounded m.preconditions s sd s) (λ left. goes_then done (λ u. returns_taken m args)))
      ∙ (λ i. then_do (asserted (sym all_asked i) s (sym here i)) (λ u. returns_taken m args))

  pub begin_stops : {Z : Type 0} {u : Z → List Value} {f g : Feed} {w : StepHalt} → Does {X = ⊤} (λ x. x) f (asserted asked s sc) g (Err w) → Does u f (call_begun m args sd s) g (Err w)
  begin_stops h = first_stops {X = ⊤} {v = λ x. x} (λ u. returns_taken m args) begun_is h

  pub begin_goes : {Z : Type 0} {u : Z → List Value} {f n g : Feed} {x : ⊤} {q : Result Z StepHalt} → Does (λ x. x) f (asserted asked s sc) n (Ok x) → Does u n (returns_taken m args) g q → Does u f (call_begun m args sd s) g q
  begin_goes h i = both_go {v = λ x. x} (λ u. returns_taken m args) begun_is h i
