use Rattle.enc_expr.proofs.Rows as rows
use Rattle.enc_expr.proofs.worked.a_sum_may_leave_the_bound.Goals as goal

pub returns-clause-beyond : goal.returns-clause-beyond
returns-clause-beyond _ = rows.beyond

pub returns-clause-within : goal.returns-clause-within
returns-clause-within _ = rows.within

pub returns-clause-unbounded : goal.returns-clause-unbounded
returns-clause-unbounded _ = rows.unbounded
