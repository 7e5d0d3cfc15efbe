use Rattle.enc_examples.proofs.Rows as rows
use Rattle.enc_examples.proofs.worked.what_is_exhaled.Goals as goal

pub returns-clause-goes : goal.returns-clause-goes
returns-clause-goes call = rows.what_is_exhaled_goes

pub returns-clause-too_little : goal.returns-clause-too_little
returns-clause-too_little call = rows.what_is_exhaled_too_little

pub returns-clause-is_false : goal.returns-clause-is_false
returns-clause-is_false call = rows.what_is_exhaled_is_false

pub returns-clause-of_instance : goal.returns-clause-of_instance
returns-clause-of_instance call = rows.what_is_exhaled_of_instance

pub returns-clause-all_of_instance : goal.returns-clause-all_of_instance
returns-clause-all_of_instance call = rows.what_is_exhaled_all_of_instance

pub returns-clause-no_instance : goal.returns-clause-no_instance
returns-clause-no_instance call = rows.what_is_exhaled_no_instance
