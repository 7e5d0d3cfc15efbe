-- There are fewer columns each time.
use Rattle.std.proofs.Common.{length}
use Rattle.boogie_eval.proofs.eval_columns.+keys_of_all.Given as goal

abbrev pub decreases-keys_of_all : goal.decreases-keys_of_all
decreases-keys_of_all l = length l.columns.now
