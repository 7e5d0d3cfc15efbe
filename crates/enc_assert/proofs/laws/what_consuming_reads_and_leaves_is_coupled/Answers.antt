use Rattle.enc_assert.proofs.ConsumeSimulation.{start_coupled, left_coupled}
use Rattle.enc_assert.proofs.laws.what_consuming_reads_and_leaves_is_coupled.Goals as goal

pub returns-clause-read : goal.returns-clause-read
returns-clause-read call b c p left s u w sc n m E F within coupled maps own after = start_coupled b c p left own s sc within coupled maps after

pub returns-clause-left : goal.returns-clause-left
returns-clause-left call b c p left s u w sc n m E F within coupled maps own after = left_coupled b c p left own s sc within coupled maps after
