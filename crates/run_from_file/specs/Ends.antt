-- How what a run file spells ends.
use Rattle.std.specs.Prelude.{◌≡◌, ℕ, List, length}
use Rattle.vb_value.specs.Bound.{Bounded}
use Rattle.viper_core.specs.Program.{Program}
use Rattle.viper_state.specs.Choice.{Choice}
use Rattle.viper_state.specs.Event.{Event}
use Rattle.viper_state.specs.Run.{Opening}
use Rattle.viper_state.specs.State.{State}
use Rattle.viper_meaning.specs.Run.{Ran, Step, ran, on}
use Rattle.viper_meaning.specs.Units.{unit_run}
use Rattle.viper_run.specs.Outcome.{Ends}
use Rattle.viper_run.specs.declared.units.Run.{Run}
use Rattle.viper_exec_meaning.specs.Execution.{Went, execution}
use Rattle.viper_exec.specs.Outcome.{end_of}
use Rattle.run_file.specs.Run.{ViperRun, SpellsViperRun}
use Rattle.run_from_file.specs.declared.executions.EndedExecution.{EndedExecution}
use Rattle.run_from_file.specs.declared.executions.ExecutionTask.{ExecutionTask}

-- the bytes spell a run of the unit of this number, which begins here, and on which the unit ended so
pub record EndsRun (bytes : List ℕ) (p : Program) (n : ℕ) (o : Opening) (x : Run) : Type 0 where
  pub run : ViperRun
  pub spelled : SpellsViperRun bytes p n run
  pub opening : o ≡ run.opening
  pub ends : Ends (on (unit_run Bounded p n run.opening) run.choices) x

-- an execution ended so, and left so many choices
pub record EndsSo (r : Ran (Went State)) (x : EndedExecution) : Type 0 where
  pub events : List Event
  pub step : Step (Went State)
  pub left : List Choice
  pub runs : r ≡ ran events step left
  pub end : x.end ≡ end_of step
  pub unused : x.unused ≡ length left

-- the bytes spell a run of the unit, on which the method ended so
pub record EndsExecution (bytes : List ℕ) (p : Program) (t : ExecutionTask) (x : EndedExecution) : Type 0 where
  pub run : ViperRun
  pub spelled : SpellsViperRun bytes p t.unit run
  pub ends : EndsSo (on (execution Bounded p t.method run.opening t.budget) run.choices) x
