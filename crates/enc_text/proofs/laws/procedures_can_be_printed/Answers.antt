use Rattle.enc_text.proofs.ProcedureLaws.{expression_procedure, body_procedure}
use Rattle.enc_text.proofs.laws.procedures_can_be_printed.Goals as goal

pub returns-clause-expression : goal.returns-clause-expression
returns-clause-expression call = expression_procedure

pub returns-clause-body : goal.returns-clause-body
returns-clause-body call = body_procedure
