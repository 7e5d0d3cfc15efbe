use Rattle.std.proofs.Common.{slice_set}
use Rattle.boogie_meaning.specs.Run.{Done}
use Rattle.boogie_run.specs.View.{environment_of}
use Rattle.boogie_run.proofs.RunStepLaws.{run_passed, take_stops}
use Rattle.boogie_run.proofs.replay_steps.havoc_as.Goals as goal

pub returns-in_err-value : goal.returns-in_err-value
returns-in_err-value c =
    run_passed _ _ c.from_residual.ensures.1 (take_stops (λ x rest. Done (slice_set (environment_of c.args.env.now) c.args.number x) rest) c.in_err-value.ensures)
