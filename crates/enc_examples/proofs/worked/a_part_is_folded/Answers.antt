use Rattle.enc_examples.proofs.Rows as rows
use Rattle.enc_examples.proofs.worked.a_part_is_folded.Goals as goal

pub returns-clause-goes : goal.returns-clause-goes
returns-clause-goes call = rows.a_part_is_folded_goes

pub returns-clause-nothing : goal.returns-clause-nothing
returns-clause-nothing call = rows.a_part_is_folded_nothing

pub returns-clause-negative : goal.returns-clause-negative
returns-clause-negative call = rows.a_part_is_folded_negative

pub returns-clause-too_little : goal.returns-clause-too_little
returns-clause-too_little call = rows.a_part_is_folded_too_little

pub returns-clause-of_null : goal.returns-clause-of_null
returns-clause-of_null call = rows.a_part_is_folded_of_null
