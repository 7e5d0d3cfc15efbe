use Rattle.enc_examples.proofs.Rows as rows
use Rattle.enc_examples.proofs.worked.a_number_may_leave_the_bound.Goals as goal

pub returns-clause-beyond : goal.returns-clause-beyond
returns-clause-beyond call = rows.a_number_may_leave_the_bound_beyond

pub returns-clause-unbounded : goal.returns-clause-unbounded
returns-clause-unbounded call = rows.a_number_may_leave_the_bound_unbounded
