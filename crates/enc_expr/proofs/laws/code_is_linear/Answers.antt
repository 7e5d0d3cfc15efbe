use Rattle.enc_expr.proofs.SmallCode.{expression_linear, body_linear}
use Rattle.enc_expr.proofs.laws.code_is_linear.Goals as goal

pub returns-clause-expression : goal.returns-clause-expression
returns-clause-expression call = expression_linear

pub returns-clause-body : goal.returns-clause-body
returns-clause-body call = body_linear
