use Rattle.enc_expr.proofs.ShallowCode.{expression_shallow, body_shallow}
use Rattle.enc_expr.proofs.laws.code_is_shallow.Goals as goal

pub returns-clause-expression : goal.returns-clause-expression
returns-clause-expression call = expression_shallow

pub returns-clause-body : goal.returns-clause-body
returns-clause-body call = body_shallow
