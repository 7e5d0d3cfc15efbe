use Rattle.enc_examples.proofs.Rows as rows
use Rattle.enc_examples.proofs.worked.a_new_object_is_not_known.Goals as goal

pub returns-clause-null : goal.returns-clause-null
returns-clause-null call = rows.a_new_object_is_not_known_null

pub returns-clause-in_scope : goal.returns-clause-in_scope
returns-clause-in_scope call = rows.a_new_object_is_not_known_in_scope

pub returns-clause-out_of_scope : goal.returns-clause-out_of_scope
returns-clause-out_of_scope call = rows.a_new_object_is_not_known_out_of_scope

pub returns-clause-held : goal.returns-clause-held
returns-clause-held call = rows.a_new_object_is_not_known_held

pub returns-clause-stands_where_held : goal.returns-clause-stands_where_held
returns-clause-stands_where_held call = rows.a_new_object_is_not_known_stands_where_held

pub returns-clause-stands_elsewhere : goal.returns-clause-stands_elsewhere
returns-clause-stands_elsewhere call = rows.a_new_object_is_not_known_stands_elsewhere
