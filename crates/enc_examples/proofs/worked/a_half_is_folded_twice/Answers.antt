use Rattle.enc_examples.proofs.Rows as rows
use Rattle.enc_examples.proofs.worked.a_half_is_folded_twice.Goals as goal

pub returns-clause-same : goal.returns-clause-same
returns-clause-same call = rows.a_half_is_folded_twice_same

pub returns-clause-other : goal.returns-clause-other
returns-clause-other call = rows.a_half_is_folded_twice_other
