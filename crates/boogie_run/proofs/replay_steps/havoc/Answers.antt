use Rattle.std.proofs.Common.{ap, slice_set}
use Rattle.boogie_tree.specs.Whole.{type_of}
use Rattle.boogie_meaning.specs.Ends.{found}
use Rattle.boogie_meaning.specs.Run.{Done, with_end, with_choice, chosen}
use Rattle.boogie_run.specs.Runs.{stops}
use Rattle.boogie_run.specs.View.{environment_of, left_in}
use Rattle.boogie_eval.proofs.LookupLaws.{past_end}
use Rattle.boogie_run.proofs.replay_steps.havoc.Goals as goal

pub returns-in-None : goal.returns-in-None
returns-in-None c =
    let cs = left_in c.args.feed.now in
    stops (ap (λ o. with_end (found o) cs (λ u. with_choice cs (chosen u) (λ x rest. Done (slice_set (environment_of c.args.env.now) c.args.number x) rest)))
    (past_end (λ l. type_of l.ty) c.args.locals.now c.args.number c.in-None.ensures.lookup.3))
