use Rattle.enc_text.proofs.Rows as rows
use Rattle.enc_text.proofs.worked.a_field_as_text.Goals as goal

pub returns-clause-code : goal.returns-clause-code
returns-clause-code call = rows.field_code

pub returns-clause-value : goal.returns-clause-value
returns-clause-value call = rows.field_value
