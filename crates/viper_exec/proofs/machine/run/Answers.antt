use Rattle.viper_exec.specs.View.{machine_of}
use Rattle.viper_exec.proofs.BodyLaws.{all_done, seen_stops}
use Rattle.viper_exec.proofs.MachineLaws.{begun_more, none_more, reached, ready_then, holds_then, ended_there}
use Rattle.viper_exec.proofs.TakesLaws.{here, after, then_executes, handed_on}
use Rattle.viper_exec.proofs.machine.run.Goals as goal

pub running-init : goal.running-init
running-init c = record { reached = here c.args.budget.now; ready = c.requires.ready }

pub advance-requires : goal.advance-requires
advance-requires c = record { ready = c.running.invariant.ready }

pub returns-in_err-advance : goal.returns-in_err-advance
returns-in_err-advance c = handed_on _ _ c.from_residual.ensures.1 (seen_stops (then_executes c.running.invariant.reached (ended_there c.in_err-advance.ensures)))

pub running-preserved : goal.running-preserved
running-preserved c = record {
  reached = after c.running.invariant.reached (reached c.in_ok-advance.ensures);
  ready = ready_then c.in_ok-advance.ensures;
}

pub running-smaller : goal.running-smaller
running-smaller c = begun_more c.running.budget c.advance.new.budget (machine_of c.advance.new.machine) _ c.if-branch.true (holds_then c.in_ok-advance.ensures)

pub returns : goal.returns
returns c =
    all_done (machine_of c.advance.new.machine) (after c.running.invariant.reached (reached c.in_ok-advance.ensures)) (none_more c.running.budget c.advance.new.budget (machine_of c.advance.new.machine) _ c.if-branch.false (holds_then c.in_ok-advance.ensures))
