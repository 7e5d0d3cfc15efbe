use Rattle.enc_examples.proofs.Rows as rows
use Rattle.enc_examples.proofs.worked.a_half_is_unfolded.Goals as goal

pub returns-clause-nothing_held : goal.returns-clause-nothing_held
returns-clause-nothing_held call = rows.a_half_is_unfolded_nothing_held

pub returns-clause-same_value : goal.returns-clause-same_value
returns-clause-same_value call = rows.a_half_is_unfolded_same_value

pub returns-clause-other_value : goal.returns-clause-other_value
returns-clause-other_value call = rows.a_half_is_unfolded_other_value

pub returns-clause-too_much : goal.returns-clause-too_much
returns-clause-too_much call = rows.a_half_is_unfolded_too_much

pub returns-clause-of_null : goal.returns-clause-of_null
returns-clause-of_null call = rows.a_half_is_unfolded_of_null

pub returns-clause-too_little : goal.returns-clause-too_little
returns-clause-too_little call = rows.a_half_is_unfolded_too_little
