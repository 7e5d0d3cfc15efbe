-- A call, in the parts that the code has in functions of their own.
use Rattle.std.proofs.Common.{◌≡◌, refl, sym, ap, ◌∙◌, subst, ℕ, Option, Some, None, List, [], ◌++◌, length, get_or, map, All, IfSome, is_some, slice_get, Result, Ok, Err}
use Rattle.std.specs.Prelude.{⊤, nat_lt}
use Rattle.std.specs.Borrow.{Bor}
use Rattle.std.proofs.lemmas.List.Elements.{All-append}
use Rattle.std.specs.Option.{option_map, option_copied}
use Rattle.std.proofs.lemmas.Option.{slice_get-map}
use Rattle.lemmas.proofs.Options.{looked_at}
use Rattle.vb_base.specs.declared.places.Pos.{Pos}
use Rattle.vb_value.specs.Bound.{Bounded}
use Rattle.vb_value.specs.Value.{IsWithinValue}
use Rattle.vb_value.specs.declared.values.Value.{Value}
use Rattle.viper_core.specs.Expr as t
use Rattle.viper_core.specs.Stmt as s
use Rattle.viper_core.specs.Program.{Method}
use Rattle.viper_state.specs.Run.{Feed, Scene, with_variables}
use Rattle.viper_state.specs.State.{State}
use Rattle.viper_state.specs.Within.{IsWithinState, IsWithinScene}
use Rattle.viper_state.proofs.Paired.{All-found}
use Rattle.viper_meaning.specs.Run as run
use Rattle.viper_meaning.specs.Ends.{ends, is, found}
use Rattle.viper_meaning.specs.Run.{Run, evaluating, then_do}
use Rattle.viper_meaning.specs.Statements.{Activation, Configuration, scene, stored, taking_values, produce_all, exhale_all, called, run_stmt}
use Rattle.viper_meaning.specs.Value.{values}
use Rattle.viper_eval.specs.Answers.{Answers, stopped}
use Rattle.viper_eval.specs.declared.answers.EvalStop.{EvalStop}
use Rattle.viper_eval.specs.declared.answers.EvalHalt.{EvalHalt}
use Rattle.viper_inhale.specs.Answers.{Does, run_stop, run_halt}
use Rattle.viper_inhale.specs.declared.answers.StepHalt.{StepHalt}
use Rattle.viper_inhale.specs.declared.answers.StepHalt.TheVariants as halt
use Rattle.viper_inhale.proofs.DoesLaws.{same_run, goes_at_once}
use Rattle.viper_inhale.proofs.FormLaws.{part_stops, part_goes, calm_stops, calm_goes, first_stops, both_go}
use Rattle.viper_fold.proofs.FoldLaws.{found_is}
use Rattle.viper_run.specs.Steps.{call_ended}

-- ---- the end of a call: the values of the arguments, and then of the returns

pub joined_within : (args vs : List Value) {store : List Value} {before : State} {at : Pos} → store ≡ args ++ vs → All IsWithinValue args → All IsWithinValue vs → IsWithinState before →
    IsWithinScene (record { store = store; old = before; at = at })
joined_within args vs same a v b = record { store = subst (All IsWithinValue) (sym same) (All-append IsWithinValue args vs a v); old = b }

module _ (at : Pos) (targets : List ℕ) (posts : List t.Assertion) (args vs : List Value) (before : State) (c : Configuration) {store : List Value} (joined : store ≡ args ++ vs) {promised : List t.Assertion} (all_promised : promised ≡ posts) where
  abbrev with_targets : State → Run Configuration
  with_targets s = run.goes (record { store = stored c.store targets vs; state = s })

  call_ends : call_ended at targets posts args vs before c ≡ then_do (produce_all Bounded promised (record { store = store; old = before; at = at }) c.state) with_targets
  call_ends i = then_do (produce_all Bounded (sym all_promised i) (record { store = sym joined i; old = before; at = at }) c.state) with_targets

  pub end_stops : {X Z : Type 0} {v : X → State} {u : Z → Configuration} {f g : Feed} {w : StepHalt} → Does v f (produce_all Bounded promised (record { store = store; old = before; at = at }) c.state) g (Err w) →
      Does u f (call_ended at targets posts args vs before c) g (Err w)
  end_stops {v = v} h = first_stops {v = v} with_targets call_ends h

  pub end_goes : {f g : Feed} {x z : ⊤} (after : List Value) (s : State) → after ≡ stored c.store targets vs → Does (λ x. s) f (produce_all Bounded promised (record { store = store; old = before; at = at }) c.state) g (Ok x) →
      Does (λ z. record { store = after; state = s }) f (call_ended at targets posts args vs before c) g (Ok z)
  end_goes {z = z} after s set h = both_go with_targets call_ends h (goes_at_once (record { store = stored c.store targets vs; state = s }) z (ap (λ st. record { store = st; state = s }) set))

-- ---- a call: the precondition is given up, the targets take values, and the call ends

module _ (k : Activation) (targets : List ℕ) (callee : Method) (args : List Value) (at : Pos) (c : Configuration) where
  abbrev to_end : State → List Value → Run Configuration
  to_end s vs = call_ended at targets callee.postconditions args vs c.state (record { store = c.store; state = s })

  abbrev to_values : State → Run Configuration
  to_values s = then_do (taking_values k.vars targets) (to_end s)

  module _ {sc : Scene} {asked : List t.Assertion} (here : sc ≡ with_variables args (scene k c at)) (all_asked : asked ≡ callee.preconditions) where
    called_is : called Bounded k targets callee args at c ≡ then_do (exhale_all Bounded k.program asked c.state sc) to_values
    called_is i = then_do (exhale_all Bounded k.program (sym all_asked i) c.state (sym here i)) to_values

    pub call_stops : {X Z : Type 0} {v : X → State} {u : Z → Configuration} {f g : Feed} {w : StepHalt} → Does v f (exhale_all Bounded k.program asked c.state sc) g (Err w) →
        Does u f (called Bounded k targets callee args at c) g (Err w)
    call_stops {v = v} h = first_stops {v = v} to_values called_is h

    module _ {f m : Feed} {s : State} {x : ⊤} (given : Does (λ x. s) f (exhale_all Bounded k.program asked c.state sc) m (Ok x)) where
      pub values_stop : {X Z : Type 0} {v : X → List Value} {u : Z → Configuration} {g : Feed} {w : StepHalt} → Does v m (taking_values k.vars targets) g (Err w) → Does u f (called Bounded k targets callee args at c) g (Err w)
      values_stop {v = v} h = both_go to_values called_is given (first_stops {v = v} (to_end s) refl h)

      pub call_goes : {X Z : Type 0} {v : X → List Value} {u : Z → Configuration} {n g : Feed} {y : X} {q : Result Z StepHalt} {before : State} → before ≡ c.state →
          Does v m (taking_values k.vars targets) n (Ok y) → Does u n (call_ended at targets callee.postconditions args (v y) before (record { store = c.store; state = s })) g q → Does u f (called Bounded k targets callee args at c) g q
      call_goes {v = v} {y = y} copied h i =
          both_go to_values called_is given (both_go {v = v} (to_end s) refl h (same_run (λ j. call_ended at targets callee.postconditions args (v y) (sym copied j) (record { store = c.store; state = s })) i))

-- ---- the statement: the arguments are read, and the method is found

-- as plain data
pub borrowed : {A B : Type 0} (view : A → B) (o : Option (Bor A)) {p : Option A} → option_copied o ≡ p → option_map (λ x. view x.now) o ≡ option_map view p
borrowed view None e = ap (option_map view) e
borrowed view (Some x) e = ap (option_map view) e

pub looked_up : {A B : Type 0} (view : A → B) (o : Option (Bor A)) (xs : List A) (n : ℕ) → is_some o ≡ nat_lt n (length xs) → IfSome o (λ x. x.now ≡ get_or xs n x.now) → option_map (λ x. view x.now) o ≡ slice_get (map view xs) n
looked_up view o xs n is there = borrowed view o (looked_at o xs n is there) ∙ sym (slice_get-map view xs n)

-- what is found among what has a property has it
pub found_has : {X : Type 0} (P : X → Type 0) (xs : List X) (n : ℕ) (x : X) → All P xs → is x ≡ found (slice_get xs n) → P x
found_has P xs n x h e = subst (λ o. IfSome o P) (found_is (slice_get xs n) x e) (All-found P xs n h)

module _ (k : Activation) (c : Configuration) {at : Pos} {sc : Scene} (here : sc ≡ scene k c at) (targets : List ℕ) (n : ℕ) (es : t.Exprs) where
  abbrev to_call : List Value → Method → Run Configuration
  to_call vs callee = called Bounded k targets callee vs at c

  abbrev to_callee : List Value → Run Configuration
  to_callee vs = evaluating (found (slice_get k.program.methods n)) (to_call vs)

  call_is : run_stmt Bounded k (s.Call at targets n es) c ≡ evaluating (values Bounded es c.state sc) to_callee
  call_is i = evaluating (values Bounded es c.state (sym here i)) to_callee

  pub args_stop : {X Z : Type 0} {v : X → List Value} {u : Z → Configuration} {f g : Feed} {w : EvalHalt} → Answers v f.events (values Bounded es c.state sc) g.events (Err w) → g.left ≡ f.left →
      Does u f (run_stmt Bounded k (s.Call at targets n es) c) g (Err (run_halt w))
  args_stop {v = v} h left = part_stops {v = v} to_callee call_is h left

  module _ {X Z : Type 0} {v : X → List Value} {u : Z → Configuration} {f m : Feed} {x : X} (args : Answers v f.events (values Bounded es c.state sc) m.events (Ok x)) (left : m.left ≡ f.left) where
    pub callee_stops : (w : EvalStop) → ends [] (stopped w) ≡ found (slice_get k.program.methods n) → Does u f (run_stmt Bounded k (s.Call at targets n es) c) m (Err (halt.Stops (run_stop w)))
    callee_stops w h = part_goes {v = v} to_callee call_is args left (calm_stops (to_call (v x)) refl w h)

    pub callee_goes : {g : Feed} {q : Result Z StepHalt} (callee : Method) → is callee ≡ found (slice_get k.program.methods n) → Does u m (called Bounded k targets callee (v x) at c) g q → Does u f (run_stmt Bounded k (s.Call at targets n es) c) g q
    callee_goes callee h i = part_goes {v = v} to_callee call_is args left (calm_goes (to_call (v x)) refl h i)
