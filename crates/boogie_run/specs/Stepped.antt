-- A run that continues statement by statement.
use Rattle.std.specs.Prelude.{List, Option, Some, None}
use Rattle.boogie_tree.specs.Value as v
use Rattle.boogie_meaning.specs.Run.{Run, Done, Stops}
use Rattle.boogie_run.specs.Runs.{why}
use Rattle.boogie_run.specs.View.{environment_of, left_in}
use Rattle.boogie_run.specs.declared.replay_ends.ReplayStop.{ReplayStop}
use Rattle.boogie_run.specs.declared.stepping.Running.{Running}

-- how a run has ended, where it was stopped or was not
abbrev pub ended : List v.BValue → List v.BChoice → Option ReplayStop → Run
ended env left None = Done env left
ended env left (Some w) = Stops (why w) left

-- how the run of the statements so far has ended
abbrev pub run_in : Running → Run
run_in x = ended (environment_of x.env) (left_in x.feed) x.stop
