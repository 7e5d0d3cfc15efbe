use Rattle.enc_expr.proofs.PrintedCode.{expression_literals, body_literals}
use Rattle.enc_expr.proofs.laws.literals_of_programs_fit.Goals as goal

pub returns-clause-expression : goal.returns-clause-expression
returns-clause-expression call = expression_literals

pub returns-clause-assertion : goal.returns-clause-assertion
returns-clause-assertion call = body_literals
