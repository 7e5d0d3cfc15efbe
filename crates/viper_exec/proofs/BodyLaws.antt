-- A body that begins, and one that is called, by the names that the code has for their parts.
use Rattle.std.proofs.Common.{◌≡◌, sym, ap, subst, ℕ, List, [], ◌∷◌, All, Result, Ok, Err}
use Rattle.std.specs.Prelude.{⊤}
use Rattle.std.proofs.lemmas.List.Elements.{All-append}
use Rattle.vb_value.specs.Bound.{Bounded}
use Rattle.vb_value.specs.Value.{IsWithinValue}
use Rattle.vb_value.specs.declared.values.Ty.{Ty}
use Rattle.vb_value.specs.declared.values.Value.{Value}
use Rattle.viper_core.specs.Formed.{IsFormed}
use Rattle.viper_core.specs.Literals.{IsWithinAssertion}
use Rattle.viper_core.specs.Program.{Program, Method, Body}
use Rattle.viper_state.specs.Run.{Feed, Scene}
use Rattle.viper_state.specs.State.{State}
use Rattle.viper_state.specs.Within.{IsWithinChoice, IsWithinEvent, IsWithinState, IsWithinScene}
use Rattle.viper_meaning.specs.KeptRuns.{KeepsRun, at_end}
use Rattle.viper_meaning.specs.Run as m
use Rattle.viper_meaning.specs.Run.{Run, ran}
use Rattle.viper_meaning.specs.Statements.{Configuration}
use Rattle.viper_meaning.proofs.KeptLaws.{is_kept}
use Rattle.viper_meaning.proofs.RunKeptLaws.{then_do_kept}
use Rattle.viper_meaning.proofs.StatementKeptLaws.{consume_all_within, taking_values_within}
use Rattle.viper_inhale.specs.Answers.{Does}
use Rattle.viper_inhale.proofs.DoesLaws.{does_keep}
use Rattle.viper_run.specs.Ready.{IsReady}
use Rattle.viper_exec_meaning.specs.Execution.{Went, Still, returns_in, bodies_within}
use Rattle.viper_exec.specs.declared.answers.Quit.{Quit}
use Rattle.viper_exec.specs.Answers.{Takes, Executes, no_memory, goes, stops, spent}
use Rattle.viper_exec.specs.Steps.{IsReadyBody, call_begun, entry_of, body_from}
use Rattle.viper_exec.specs.Frames.{Frame, Block, End, Machine, IsReadyMachine, going, resume}
use Rattle.viper_exec.proofs.NeedLaws.{body_within}
use Rattle.viper_exec.proofs.TakesLaws.{Reaches, then_executes, at_end as ends_so, same_executions}

-- ---- a body that is called

module _ (callee : Method) (args : List Value) {sc : Scene} {st : State} (within : All IsWithinValue args) (clauses : All IsWithinAssertion callee.preconditions) (now : IsWithinState st) (there : IsWithinScene sc) where
  begun_kept : KeepsRun IsWithinEvent IsWithinChoice (All IsWithinValue) (call_begun callee args sc st)
  begun_kept =
      then_do_kept (consume_all_within callee.preconditions st sc st clauses now now there) (λ left i.
      then_do_kept (taking_values_within callee.vars (returns_in callee)) (λ vs j. at_end (is_kept (All-append IsWithinValue args vs within j))))

  pub given_within : {X : Type 0} {v : X → List Value} {f g : Feed} {x : X} → All IsWithinChoice f.left → Does v f (call_begun callee args sc st) g (Ok x) → All IsWithinValue (v x)
  given_within choices h = (does_keep begun_kept choices h).0

-- ---- where a body begins

module _ (program : Program) (meth : Method) (body : Body) (c : Configuration) {vars : List Ty} {old : State} {frames : List Frame} (typed : vars ≡ meth.vars) (copied : old ≡ c.state) (all : frames ≡ Block body.stmts ∷ End meth body.turn ∷ []) where
  abbrev pub start : Machine
  start = record { activation = record { program = program; vars = vars; old = old }; configuration = c; frames = frames }

  abbrev entry : Machine
  entry = record { activation = entry_of program meth c; configuration = c; frames = Block body.stmts ∷ End meth body.turn ∷ [] }

  start_is : entry ≡ start
  start_is i = record { activation = record { program = program; vars = sym typed i; old = sym copied i }; configuration = c; frames = sym all i }

  pub start_ready : {f : Feed} → IsFormed program → IsReadyBody program meth body → IsReady (entry_of program meth c) c f → IsReadyMachine start f
  start_ready {f = f} formed has h = subst (λ at. IsReadyMachine at f) start_is (record { formed = formed; ready = h; frames = (body_within has, (has.method_within, tt)) })

  pub start_runs : {X : Type 0} {v : X → Configuration} {f g : Feed} {n left : ℕ} {q : Result X Quit} → Executes v f n (going start) g left q →
      Executes v f n (λ n. body_from (bodies_within Bounded program n) program meth body n c) g left q
  start_runs h = same_executions (λ j. ap (λ at. going at j) start_is) h

-- ---- where nothing is left to be done

pub all_done : {f g : Feed} {r : ℕ → Run (Went Configuration)} {n left : ℕ} (at : Machine) {x : ⊤} → Reaches f n r g left (going at) → at.frames ≡ [] → Executes (λ _. at.configuration) f n r g left (Ok x)
all_done {left = left} at {x = x} h none = then_executes h (ends_so left x (λ j. ap (λ frames. resume frames at.activation j at.configuration) none))

-- ---- answers seen through another view

pub seen : {X Z Y : Type 0} {v : X → Y} {u : Z → Y} {f g : Feed} {r : ℕ → Run (Went Y)} {n left : ℕ} {x : X} (z : Z) → u z ≡ v x → Executes v f n r g left (Ok x) → Executes u f n r g left (Ok z)
seen {f = f} {g = g} {r = r} {n = n} {left = left} z same (goes h) = goes (subst (λ y. Takes f r n left (λ more. ran g.events (m.Goes (Still more y)) g.left)) (sym same) h)

pub seen_stops : {X Z Y : Type 0} {v : X → Y} {u : Z → Y} {f g : Feed} {r : ℕ → Run (Went Y)} {n left : ℕ} {w : Quit} → Executes v f n r g left (Err w) → Executes u f n r g left (Err w)
seen_stops no_memory = no_memory
seen_stops (stops h) = stops h
seen_stops (spent none h) = spent none h
