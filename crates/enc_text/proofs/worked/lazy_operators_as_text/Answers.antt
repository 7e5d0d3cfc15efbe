use Rattle.enc_text.proofs.Rows as rows
use Rattle.enc_text.proofs.worked.lazy_operators_as_text.Goals as goal

pub returns-clause-code : goal.returns-clause-code
returns-clause-code call = rows.guarded_code

pub returns-clause-value : goal.returns-clause-value
returns-clause-value call = rows.guarded_value
