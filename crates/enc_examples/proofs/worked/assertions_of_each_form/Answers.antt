use Rattle.enc_examples.proofs.Rows as rows
use Rattle.enc_examples.proofs.worked.assertions_of_each_form.Goals as goal

pub returns-clause-instance : goal.returns-clause-instance
returns-clause-instance call = rows.assertions_of_each_form_instance

pub returns-clause-place : goal.returns-clause-place
returns-clause-place call = rows.assertions_of_each_form_place

pub returns-clause-all_of_it : goal.returns-clause-all_of_it
returns-clause-all_of_it call = rows.assertions_of_each_form_all_of_it

pub returns-clause-nothing_held : goal.returns-clause-nothing_held
returns-clause-nothing_held call = rows.assertions_of_each_form_nothing_held

pub returns-clause-not_above : goal.returns-clause-not_above
returns-clause-not_above call = rows.assertions_of_each_form_not_above
