use Rattle.enc_expr.proofs.Rows as rows
use Rattle.enc_expr.proofs.worked.operators_have_their_values.Goals as goal

pub returns-clause-by_zero : goal.returns-clause-by_zero
returns-clause-by_zero _ = rows.by_zero

pub returns-clause-euclidean : goal.returns-clause-euclidean
returns-clause-euclidean _ = rows.euclidean

pub returns-clause-operators_true : goal.returns-clause-operators_true
returns-clause-operators_true _ = rows.operators_true

pub returns-clause-operators_false : goal.returns-clause-operators_false
returns-clause-operators_false _ = rows.operators_false
