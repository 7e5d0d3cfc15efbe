use Rattle.enc_examples.proofs.Rows as rows
use Rattle.enc_examples.proofs.worked.one_of_two_blocks_runs.Goals as goal

pub returns-clause-first : goal.returns-clause-first
returns-clause-first call = rows.one_of_two_blocks_runs_first

pub returns-clause-second : goal.returns-clause-second
returns-clause-second call = rows.one_of_two_blocks_runs_second

pub returns-clause-old_not_held : goal.returns-clause-old_not_held
returns-clause-old_not_held call = rows.one_of_two_blocks_runs_old_not_held
