-- How a run of a unit ended.
use Rattle.std.specs.Prelude.{◌≡◌, List, map, length}
use Rattle.viper_state.specs.Choice.{Choice}
use Rattle.viper_state.specs.State as s
use Rattle.viper_state.specs.View.{event_of, state_of}
use Rattle.viper_state.specs.declared.runs.Outcome.{Outcome}
use Rattle.viper_state.specs.declared.runs.Outcome.TheVariants.{Done, Failed, Blocked, Short, Over}
use Rattle.viper_meaning.specs.Run as m
use Rattle.viper_meaning.specs.Run.{Ran, ran}
use Rattle.viper_run.specs.declared.units.Run.{Run}

abbrev pub outcome_of : {X : Type 0} → m.Step X → Outcome
outcome_of (m.Goes x) = Done
outcome_of (m.Fails l) = Failed l
outcome_of m.Blocked = Blocked
outcome_of m.Short = Short
outcome_of (m.Over at) = Over at

-- the run ended so, with these events and this state, where it was done, and left so many choices
pub record Ends (r : Ran s.State) (x : Run) : Type 0 where
  pub step : m.Step s.State
  pub left : List Choice
  pub runs : r ≡ ran (map event_of x.events.items) step left
  pub outcome : x.outcome ≡ outcome_of step
  pub done : (end : s.State) → step ≡ m.Goes end → state_of x.state ≡ end
  pub unused : x.unused ≡ length left
