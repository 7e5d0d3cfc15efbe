use Rattle.boogie_cut.proofs.FollowsLaws.{program_follows}
use Rattle.boogie_cut.proofs.laws.what_is_written_follows_the_loops.Goals as goal

pub returns : goal.returns
returns c = program_follows
