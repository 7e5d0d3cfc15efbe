use Rattle.std.proofs.Common.{ap, ◌∙◌, Some}
use Rattle.boogie_run.specs.View.{environment_of, left_in}
use Rattle.boogie_run.specs.declared.replay_ends.ReplayStop.TheVariants as stop
use Rattle.boogie_run.proofs.SteppedLaws.{was_stopped}
use Rattle.boogie_run.proofs.stepping.Running.outcome.Goals as goal

pub outcome_at-requires : goal.outcome_at-requires
outcome_at-requires c = λ wrong. c.requires _ (was_stopped (environment_of c.args.self.now.env) (left_in c.args.self.now.feed) stop.Wrong (c.in-Some.is ∙ ap Some wrong))
