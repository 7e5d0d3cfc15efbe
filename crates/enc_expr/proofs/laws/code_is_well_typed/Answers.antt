use Rattle.enc_expr.proofs.TypedCode.{expression_typed, filling_typed}
use Rattle.enc_expr.proofs.laws.code_is_well_typed.Goals as goal

pub returns-clause-expression : goal.returns-clause-expression
returns-clause-expression call = expression_typed

pub returns-clause-body : goal.returns-clause-body
returns-clause-body call = filling_typed
