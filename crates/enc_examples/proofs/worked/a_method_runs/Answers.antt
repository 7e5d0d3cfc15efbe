use Rattle.enc_examples.proofs.Rows as rows
use Rattle.enc_examples.proofs.worked.a_method_runs.Goals as goal

pub returns-clause-postcondition : goal.returns-clause-postcondition
returns-clause-postcondition call = rows.a_method_runs_postcondition

pub returns-clause-well : goal.returns-clause-well
returns-clause-well call = rows.a_method_runs_well

pub returns-clause-precondition : goal.returns-clause-precondition
returns-clause-precondition call = rows.a_method_runs_precondition

pub returns-clause-by_itself : goal.returns-clause-by_itself
returns-clause-by_itself call = rows.a_method_runs_by_itself

pub returns-clause-not_defined : goal.returns-clause-not_defined
returns-clause-not_defined call = rows.a_method_runs_not_defined

pub returns-clause-not_defined_before : goal.returns-clause-not_defined_before
returns-clause-not_defined_before call = rows.a_method_runs_not_defined_before
