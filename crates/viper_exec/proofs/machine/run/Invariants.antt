-- Where the execution stands. Each part of it takes of the budget.
use Rattle.viper_state.specs.View.{feed_of}
use Rattle.viper_exec.specs.Frames.{IsReadyMachine, going}
use Rattle.viper_exec.specs.View.{machine_of}
use Rattle.viper_exec.proofs.TakesLaws.{Reaches}
use Rattle.viper_exec.proofs.machine.run.Given as goal

abbrev pub invariant-running : goal.invariant-running
invariant-running l = record {
  reached : Reaches (feed_of l.fn.feed) l.fn.budget (going (machine_of l.fn.machine)) (feed_of l.feed) l.budget (going (machine_of l.machine));
  ready : IsReadyMachine (machine_of l.machine) (feed_of l.feed);
}

abbrev pub decreases-running : goal.decreases-running
decreases-running l = l.budget
