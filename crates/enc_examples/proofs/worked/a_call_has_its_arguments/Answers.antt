use Rattle.enc_examples.proofs.Rows as rows
use Rattle.enc_examples.proofs.worked.a_call_has_its_arguments.Goals as goal

pub returns-clause-goes : goal.returns-clause-goes
returns-clause-goes call = rows.a_call_has_its_arguments_goes

pub returns-clause-other_return : goal.returns-clause-other_return
returns-clause-other_return call = rows.a_call_has_its_arguments_other_return

pub returns-clause-other_old : goal.returns-clause-other_old
returns-clause-other_old call = rows.a_call_has_its_arguments_other_old

pub returns-clause-precondition : goal.returns-clause-precondition
returns-clause-precondition call = rows.a_call_has_its_arguments_precondition

pub returns-clause-not_held : goal.returns-clause-not_held
returns-clause-not_held call = rows.a_call_has_its_arguments_not_held
