use Rattle.enc_examples.proofs.Rows as rows
use Rattle.enc_examples.proofs.worked.a_predicate_is_read_by_itself.Goals as goal

pub returns-clause-not_held : goal.returns-clause-not_held
returns-clause-not_held call = rows.a_predicate_is_read_by_itself_not_held

pub returns-clause-null : goal.returns-clause-null
returns-clause-null call = rows.a_predicate_is_read_by_itself_null
