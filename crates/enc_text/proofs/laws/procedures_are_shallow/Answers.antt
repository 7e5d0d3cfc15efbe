use Rattle.enc_text.proofs.ReadLaws.{expression_low, body_low}
use Rattle.enc_text.proofs.laws.procedures_are_shallow.Goals as goal

pub returns-clause-expression : goal.returns-clause-expression
returns-clause-expression call = expression_low

pub returns-clause-body : goal.returns-clause-body
returns-clause-body call = body_low
