use Rattle.std.proofs.Common.{ap}
use Rattle.boogie_tree.specs.Whole.{value_of}
use Rattle.boogie_meaning.specs.Ends.{found}
use Rattle.boogie_eval.specs.Answers.{wrong}
use Rattle.boogie_eval.proofs.LookupLaws.{past_end}
use Rattle.boogie_run.proofs.replay_values.whole.Goals as goal

pub returns-in-None : goal.returns-in-None
returns-in-None c = wrong (ap found (past_end value_of c.args.env.now c.args.number c.in-None.ensures.lookup.3))
