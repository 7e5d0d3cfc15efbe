use Rattle.enc_expr.proofs.Rows as rows
use Rattle.enc_expr.proofs.worked.a_place_takes_what_an_instance_contains.Goals as goal

pub returns-clause-none_of_it : goal.returns-clause-none_of_it
returns-clause-none_of_it _ = rows.none_of_it

pub returns-clause-other_value : goal.returns-clause-other_value
returns-clause-other_value _ = rows.other_value

pub returns-clause-same_value : goal.returns-clause-same_value
returns-clause-same_value _ = rows.same_value

pub returns-clause-too_much : goal.returns-clause-too_much
returns-clause-too_much _ = rows.too_much

pub returns-clause-of_null : goal.returns-clause-of_null
returns-clause-of_null _ = rows.of_null

pub returns-clause-negative : goal.returns-clause-negative
returns-clause-negative _ = rows.negative

pub returns-clause-nothing : goal.returns-clause-nothing
returns-clause-nothing _ = rows.nothing

pub returns-clause-not_nothing : goal.returns-clause-not_nothing
returns-clause-not_nothing _ = rows.not_nothing
