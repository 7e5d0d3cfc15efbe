-- Where the execution stands, while nothing has begun.
use Rattle.std.proofs.Common.{◌≡◌, []}
use Rattle.viper_state.specs.View.{feed_of}
use Rattle.viper_exec.specs.Frames.{IsReadyMachine, going, steps_left}
use Rattle.viper_exec.specs.View.{frames_over, machine_of}
use Rattle.viper_exec.proofs.TakesLaws.{Reaches}
use Rattle.viper_exec.proofs.machine.advance.Given as goal

abbrev pub invariant-loop-frame : goal.invariant-loop-frame
invariant-loop-frame l = record {
  reached : Reaches (feed_of l.fn.feed) l.fn.budget (going (machine_of l.fn.machine)) (feed_of l.feed) l.budget (going (machine_of l.machine));
  ready : IsReadyMachine (machine_of l.machine) (feed_of l.feed);
  same : l.budget ≡ l.fn.budget;
}

abbrev pub decreases-loop-frame : goal.decreases-loop-frame
decreases-loop-frame l = steps_left (frames_over l.machine.frames.items [])
