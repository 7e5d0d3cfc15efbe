-- What the answers of a run say.
use Rattle.std.specs.Prelude.{◌≡◌, Result, Ok, Err, List}
use Rattle.boogie_tree.specs.Value.{BValue, BChoice}
use Rattle.boogie_meaning.specs.Run as m
use Rattle.boogie_meaning.specs.Run.{Run, Done, Stops}
use Rattle.boogie_eval.specs.declared.eval_ends.Miss.{Miss}
use Rattle.boogie_eval.specs.declared.eval_ends.Miss.TheVariants as miss
use Rattle.boogie_run.specs.declared.replay_ends.ReplayStop.{ReplayStop}
use Rattle.boogie_run.specs.declared.replay_ends.ReplayStop.TheVariants as stop
use Rattle.boogie_run.specs.declared.replay_ends.ReplayHalt.{ReplayHalt}
use Rattle.boogie_run.specs.declared.replay_ends.ReplayHalt.TheVariants as halt

-- why a run stops where an evaluation has no value
abbrev pub halted : Miss → ReplayHalt
halted miss.Memory = halt.Memory
halted miss.Over = halt.Stops stop.Over
halted miss.Wrong = halt.Stops stop.Wrong

abbrev pub why : ReplayStop → m.Stop
why (stop.Failed l) = m.Failed l
why stop.Blocked = m.Blocked
why stop.Short = m.Short
why stop.Over = m.Over
why stop.Wrong = m.Wrong

-- The run ended so, with this environment where it is done, and these choices are left. Nothing is said where memory was refused.
pub data Runs (r : Run) (env : List BValue) (left : List BChoice) : Result (Unit {0}) ReplayHalt → Type 0 where
  no_memory : Runs r env left (Err halt.Memory)
  done : {x : Unit {0}} → r ≡ Done env left → Runs r env left (Ok x)
  stops : {w : ReplayStop} → r ≡ Stops (why w) left → Runs r env left (Err (halt.Stops w))

-- the same of a step that has a value: what the run does then
pub data Takes {X Y : Type 0} (view : X → Y) (before : List BChoice) (left : List BChoice) (r : (Y → List BChoice → Run) → Run) : Result X ReplayHalt → Type 0 where
  no_memory : Takes view before left r (Err halt.Memory)
  goes : {x : X} → ((go : Y → List BChoice → Run) → r go ≡ go (view x) left) → Takes view before left r (Ok x)
  stops : {w : ReplayStop} → ((go : Y → List BChoice → Run) → r go ≡ Stops (why w) left) → Takes view before left r (Err (halt.Stops w))
