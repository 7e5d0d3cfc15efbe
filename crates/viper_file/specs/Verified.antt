-- What it means that nothing of a program fails, and that no run does from a state that satisfies a precondition.
use Rattle.std.specs.Prelude.{◌≡◌, ◌+◌, ℕ, List, All, Some, slice_get, take}
use Rattle.vb_base.specs.declared.labels.Label.{Label}
use Rattle.vb_value.specs.Bound.{Bound}
use Rattle.vb_value.specs.Fraction.{Fraction, IsReduced}
use Rattle.vb_value.specs.declared.values.Value.{Value}
use Rattle.viper_core.specs.Program.{Program, Method}
use Rattle.viper_state.specs.Choice.{Choice}
use Rattle.viper_state.specs.Event.{Event}
use Rattle.viper_state.specs.Fits.{FitsStore, FitsState}
use Rattle.viper_state.specs.State.{State}
use Rattle.viper_meaning.specs.Asked.{IsReducedChoice}
use Rattle.viper_meaning.specs.Run.{Run, Fails, ran, on}
use Rattle.viper_meaning.specs.Sat.{SatAll, memo_of_state}
use Rattle.viper_meaning.specs.Units.{first_store, first_scene, run_method}
use Rattle.viper_exec_meaning.specs.Frame.{NoUnitFails}

-- With these values of its parameters and returns the state satisfies the precondition of the method: its permissions are
-- exactly those that the precondition denotes, for some amounts of its wildcards. Where it has no clause, nothing is held.
pub record SatisfiesPrecondition (program : Program) (m : Method) (store : List Value) (s : State) : Type 0 where
  pub values : FitsStore (take (m.params + m.returns) m.vars) store
  pub state : FitsState program.layout s
  pub amounts : List Fraction
  pub reduced : All IsReduced amounts
  pub satisfied : SatAll m.preconditions s (first_scene program m (record { store = store; memo = memo_of_state s })) amounts

-- the run of a method from a state in which it has begun, which is its old state from then on
abbrev pub run_from : Bound → Program → Method → List Value → State → Run State
run_from b program m store s = run_method b (record { program = program; vars = m.vars; old = s }) m m.body (record { store = first_store m store; state = s })

-- on no choices in lowest terms does the run fail, at whatever label
abbrev pub RunNeverFails : Run State → Type 0
RunNeverFails r = (choices : List Choice) (events : List Event) (left : List Choice) (label : Label) → All IsReducedChoice choices → on r choices ≡ ran events (Fails label) left → ⊥

-- No run of a method or a predicate of the program fails, from any opening and at any label. And no method fails, with the bound or
-- without it, from a state that satisfies its precondition.
pub record HasNoFailure (program : Program) : Type 0 where
  pub units : NoUnitFails program
  pub methods : (b : Bound) (k : ℕ) (m : Method) (store : List Value) (s : State) → slice_get program.methods k ≡ Some m → SatisfiesPrecondition program m store s →
      RunNeverFails (run_from b program m store s)
