-- There are fewer types each time.
use Rattle.std.proofs.Common.{length}
use Rattle.boogie_eval.proofs.eval_keys.+has_other_from.Given as goal

abbrev pub decreases-has_other_from : goal.decreases-has_other_from
decreases-has_other_from l = length l.bases.now
