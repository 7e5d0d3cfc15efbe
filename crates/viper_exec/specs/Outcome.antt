-- How an execution ended.
use Rattle.std.specs.Prelude.{◌≡◌, ℕ, List, length}
use Rattle.viper_state.specs.Choice.{Choice}
use Rattle.viper_state.specs.Event.{Event}
use Rattle.viper_state.specs.State as s
use Rattle.viper_state.specs.View.{state_of}
use Rattle.viper_meaning.specs.Run as m
use Rattle.viper_meaning.specs.Run.{Ran, ran}
use Rattle.viper_exec_meaning.specs.Execution as e
use Rattle.viper_exec_meaning.specs.Execution.{Went, Still}
use Rattle.viper_exec_meaning.specs.Budget.{begun}
use Rattle.viper_exec.specs.declared.executions.ExecEnd.{ExecEnd}
use Rattle.viper_exec.specs.declared.executions.ExecEnd.TheVariants.{Done, Failed, Blocked, Short, Over, Spent}
use Rattle.viper_exec.specs.declared.executions.Executed.{Executed}

abbrev pub end_of : {X : Type 0} → m.Step (Went X) → ExecEnd
end_of (m.Goes (Still n x)) = Done
end_of (m.Goes e.Spent) = Spent
end_of (m.Fails l) = Failed l
end_of m.Blocked = Blocked
end_of m.Short = Short
end_of (m.Over at) = Over at

-- Of how an execution ends with each budget: with this one it ended so, with this state, where it was done. So many turns and bodies
-- began, and so many choices are left.
pub record EndsExecution (ends : ℕ → Ran (Went s.State)) (budget : ℕ) (x : Executed) : Type 0 where
  pub events : List Event
  pub step : m.Step (Went s.State)
  pub left : List Choice
  pub runs : ends budget ≡ ran events step left
  pub end : x.end ≡ end_of step
  pub done : (n : ℕ) (state : s.State) → step ≡ m.Goes (Still n state) → state_of x.state ≡ state
  pub spent : x.spent ≡ begun ends budget
  pub unused : x.unused ≡ length left
