-- What an execution needs at each of its steps, and what it leaves.
use Rattle.std.proofs.Common.{◌≡◌, refl, sym, subst, arith, ℕ, ◌+◌, ◌<◌, ◌≤◌, ◌^◌, drop, Bool, Option, Some, None, List, [], All, IfSome, Result, Err}
use Rattle.std.specs.Prelude.{⊤}
use Rattle.std.proofs.lemmas.List.Elements.{All-take, All-drop}
use Rattle.vb_value.specs.Bound.{Bounded, IsWithin}
use Rattle.vb_value.specs.Fraction.{IsWithinFraction}
use Rattle.vb_value.specs.Value.{IsWithinValue}
use Rattle.vb_value.specs.declared.values.Value.{Value}
use Rattle.viper_core.specs.Formed.{IsMethod, method_scope, variables_of}
use Rattle.viper_core.specs.Expr as t
use Rattle.viper_core.specs.Program.{Program, Method, Body}
use Rattle.viper_core.proofs.ScopeLaws.{fresh-stmts_scope}
use Rattle.viper_state.specs.Run.{Feed, Scene}
use Rattle.viper_state.specs.State.{State}
use Rattle.viper_meaning.specs.Ends.{Evaluated, ends}
use Rattle.viper_meaning.specs.Run.{ended}
use Rattle.viper_meaning.specs.StatementLiterals.{AllBodyLiterals, AreWithinStmts}
use Rattle.viper_meaning.specs.Statements.{Activation, Configuration, stored}
use Rattle.viper_meaning.specs.Units.{first_store}
use Rattle.viper_meaning.specs.Value.{values, truth_in}
use Rattle.viper_eval.specs.Answers as reading
use Rattle.viper_eval.specs.declared.answers.EvalStop.{EvalStop}
use Rattle.viper_eval.proofs.AnswerLaws.{stops_with}
use Rattle.viper_inhale.specs.Answers.{Does, run_stop}
use Rattle.viper_inhale.specs.declared.answers.StepHalt.{StepHalt}
use Rattle.viper_inhale.specs.declared.answers.StepHalt.TheVariants as halt
use Rattle.viper_inhale.proofs.DoesLaws.{ended_stops}
use Rattle.viper_run.specs.Ready.{CanGoOn, IsReady}
use Rattle.viper_run.proofs.LoopReadyLaws.{stored_within}
use Rattle.viper_run.proofs.UnitLaws.{first_store_within}
use Rattle.viper_exec_meaning.specs.Execution.{returned}
use Rattle.viper_exec.specs.Steps.{IsReadyBody, entry_of, asserted}

-- ---- a method and its body

at_least : (m : Method) (o : Option Body) → m.params + m.returns ≤ variables_of (method_scope m) o
at_least m None = omega arith
at_least m (Some b) = fresh-stmts_scope (method_scope m) b.stmts

pub few_given : {program : Program} {m : Method} → IsMethod program m → m.params + m.returns < 2 ^ 32
few_given {m = m} h = let low : m.params + m.returns ≤ variables_of (method_scope m) m.body = at_least m m.body in omega (arith, low, h.variables, h.few)

module _ {program : Program} {m : Method} {body : Body} (h : IsReadyBody program m body) where
  pub body_within : AreWithinStmts body.stmts
  body_within = all_within.stmts
    where
      all_within : AllBodyLiterals IsWithin IsWithinFraction body
      all_within = subst (λ o. IfSome o (AllBodyLiterals IsWithin IsWithinFraction)) h.has_body h.method_within.body

-- ---- what a call needs and leaves

module _ {k : Activation} {c : Configuration} {f : Feed} (callee : Method) (given : List Value) (within : All IsWithinValue given) (h : IsReady k c f) where
  pub entry_ready : IsReady (entry_of k.program callee (record { store = first_store callee given; state = c.state })) (record { store = first_store callee given; state = c.state }) f
  entry_ready = record {
    program = h.program;
    old = h.state.within;
    store = first_store_within callee given within;
    state = h.state;
  }

pub returned_ready : {k e : Activation} {c d : Configuration} {f g : Feed} (targets : List ℕ) (callee : Method) → k.program ≡ e.program → IsReady k c f → IsReady e d g →
    IsReady k (record { store = stored c.store targets (returned callee d.store); state = d.state }) g
returned_ready {k = k} {e = e} {c = c} {d = d} {g = g} targets callee same h i = record {
  program = h.program;
  old = h.old;
  store = stored_within c.store targets (returned callee d.store) h.store (All-take IsWithinValue callee.returns (drop callee.params d.store) (All-drop IsWithinValue callee.params d.store i.store));
  state = subst (λ (p : Program). CanGoOn p.layout d.state g) (sym same) i.state;
}

-- ---- the scene of a step

pub guarded_in : {X : Type 0} {v : X → Bool} {f g : Feed} {q : Result X StepHalt} {sc sd : Scene} (e : t.Expr) (st : State) → sc ≡ sd → Does v f (ended (truth_in Bounded e st sc)) g q → Does v f (ended (truth_in Bounded e st sd)) g q
guarded_in {v = v} {f = f} {g = g} {q = q} e st same h = subst (λ sc. Does v f (ended (truth_in Bounded e st sc)) g q) same h

pub valued_in : {X : Type 0} {v : X → List Value} {f g : Feed} {q : Result X StepHalt} {sc sd : Scene} (es : t.Exprs) (st : State) → sc ≡ sd → Does v f (ended (values Bounded es st sc)) g q → Does v f (ended (values Bounded es st sd)) g q
valued_in {v = v} {f = f} {g = g} {q = q} es st same h = subst (λ sc. Does v f (ended (values Bounded es st sc)) g q) same h

pub asserted_in : {f g : Feed} {q : Result ⊤ StepHalt} {sc sd : Scene} {asked all : List t.Assertion} (st : State) → asked ≡ all → sc ≡ sd → Does (λ x. x) f (asserted asked st sc) g q → Does (λ x. x) f (asserted all st sd) g q
asserted_in {f = f} {g = g} {q = q} {sc = sc} {all = all} st asks same h = subst (λ sc. Does (λ x. x) f (asserted all st sc) g q) same (subst (λ asked. Does (λ x. x) f (asserted asked st sc) g q) asks h)

-- ---- what is not found

pub not_found : {X Y : Type 0} {u : X → Y} {f : Feed} {e : Evaluated Y} (w : EvalStop) → ends [] (reading.stopped w) ≡ e → Does u f (ended e) f (Err (halt.Stops (run_stop w)))
not_found {u = u} {f = f} w h = ended_stops {v = u} {u = u} {f = f} {g = f} (stops_with w h) refl
