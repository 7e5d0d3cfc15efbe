-- What the answers of the program say.
use Rattle.std.specs.Prelude.{◌≡◌, Result, Ok, Err}
use Rattle.viper_state.specs.Run.{Feed}
use Rattle.viper_meaning.specs.Run as m
use Rattle.viper_meaning.specs.Run.{Run, Ran, ran, since, on}
use Rattle.viper_eval.specs.declared.answers.EvalStop.{EvalStop}
use Rattle.viper_eval.specs.declared.answers.EvalStop.TheVariants as reading
use Rattle.viper_eval.specs.declared.answers.EvalHalt.{EvalHalt}
use Rattle.viper_eval.specs.declared.answers.EvalHalt.TheVariants as evaluation
use Rattle.viper_inhale.specs.declared.answers.Step.{Step}
use Rattle.viper_inhale.specs.declared.answers.Step.TheVariants as step
use Rattle.viper_inhale.specs.declared.answers.StepStop.{StepStop}
use Rattle.viper_inhale.specs.declared.answers.StepStop.TheVariants as stop
use Rattle.viper_inhale.specs.declared.answers.StepHalt.{StepHalt}
use Rattle.viper_inhale.specs.declared.answers.StepHalt.TheVariants as halt

-- an end of a reading, as one of a run
abbrev pub run_stop : EvalStop → StepStop
run_stop (reading.Fails l) = stop.Fails l
run_stop reading.Blocked = stop.Blocked
run_stop (reading.Over at) = stop.Over at

abbrev pub run_halt : EvalHalt → StepHalt
run_halt evaluation.Memory = halt.Memory
run_halt (evaluation.Stops w) = halt.Stops (run_stop w)

-- how a step ended, with the value that it continues with
abbrev pub step_of : {X : Type 0} → X → Step → m.Step X
step_of x step.Goes = m.Goes x
step_of x (step.Fails l) = m.Fails l
step_of x step.Blocked = m.Blocked
step_of x step.Short = m.Short
step_of x (step.Over at) = m.Over at

-- an end after which nothing continues
abbrev pub stopped : {X : Type 0} → StepStop → m.Step X
stopped (stop.Fails l) = m.Fails l
stopped stop.Blocked = m.Blocked
stopped stop.Short = m.Short
stopped (stop.Over at) = m.Over at

-- a run on what is left of a feed, with what the feed has recorded first
abbrev pub run_of : {X : Type 0} → Run X → Feed → Ran X
run_of r f = since f.events (on r f.left)

-- The run on the first feed ends as the answer says, where a value is seen through a view, and leaves the second feed.
-- Nothing is said where memory was refused.
pub data Does {X Y : Type 0} (view : X → Y) (f : Feed) (r : Run Y) (g : Feed) : Result X StepHalt → Type 0 where
  no_memory : Does view f r g (Err halt.Memory)
  goes : {x : X} → run_of r f ≡ ran g.events (m.Goes (view x)) g.left → Does view f r g (Ok x)
  stops : {w : StepStop} → run_of r f ≡ ran g.events (stopped w) g.left → Does view f r g (Err (halt.Stops w))
