use Rattle.boogie_tree.specs.Literals.{AreBound}
use Rattle.enc_expr.proofs.LiteralCode.{code_fits, body_fits}
use Rattle.enc_expr.proofs.laws.literals_of_code_fit.Goals as goal

pub returns-clause-expression : goal.returns-clause-expression
returns-clause-expression call k p g a n l = let h = code_fits AreBound k p g a l in (h.stmts n, h.value n)

pub returns-clause-body : goal.returns-clause-body
returns-clause-body call k p g scale a from n l scaled = (body_fits AreBound k p g scale a from l scaled).stmts n
