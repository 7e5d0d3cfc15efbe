use Rattle.enc_expr.proofs.PrintedCode.{expression_printed, body_printed}
use Rattle.enc_expr.proofs.laws.code_can_be_printed.Goals as goal

pub returns-clause-expression : goal.returns-clause-expression
returns-clause-expression call = expression_printed

pub returns-clause-body : goal.returns-clause-body
returns-clause-body call = body_printed
