use Rattle.enc_examples.proofs.Rows as rows
use Rattle.enc_examples.proofs.worked.what_is_inhaled.Goals as goal

pub returns-clause-goes : goal.returns-clause-goes
returns-clause-goes call = rows.what_is_inhaled_goes

pub returns-clause-is_false : goal.returns-clause-is_false
returns-clause-is_false call = rows.what_is_inhaled_is_false

pub returns-clause-of_null : goal.returns-clause-of_null
returns-clause-of_null call = rows.what_is_inhaled_of_null

pub returns-clause-too_much : goal.returns-clause-too_much
returns-clause-too_much call = rows.what_is_inhaled_too_much

pub returns-clause-nothing : goal.returns-clause-nothing
returns-clause-nothing call = rows.what_is_inhaled_nothing

pub returns-clause-nothing_of_null : goal.returns-clause-nothing_of_null
returns-clause-nothing_of_null call = rows.what_is_inhaled_nothing_of_null

pub returns-clause-negative : goal.returns-clause-negative
returns-clause-negative call = rows.what_is_inhaled_negative

pub returns-clause-twice : goal.returns-clause-twice
returns-clause-twice call = rows.what_is_inhaled_twice
