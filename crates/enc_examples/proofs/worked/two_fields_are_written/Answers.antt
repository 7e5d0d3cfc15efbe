use Rattle.enc_examples.proofs.Rows as rows
use Rattle.enc_examples.proofs.worked.two_fields_are_written.Goals as goal

pub returns-clause-goes : goal.returns-clause-goes
returns-clause-goes call = rows.two_fields_are_written_goes

pub returns-clause-of_itself : goal.returns-clause-of_itself
returns-clause-of_itself call = rows.two_fields_are_written_of_itself

pub returns-clause-not_wholly : goal.returns-clause-not_wholly
returns-clause-not_wholly call = rows.two_fields_are_written_not_wholly

pub returns-clause-null : goal.returns-clause-null
returns-clause-null call = rows.two_fields_are_written_null

pub returns-clause-value_first : goal.returns-clause-value_first
returns-clause-value_first call = rows.two_fields_are_written_value_first

pub returns-clause-then_null : goal.returns-clause-then_null
returns-clause-then_null call = rows.two_fields_are_written_then_null
