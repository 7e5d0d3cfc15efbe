use Rattle.boogie_meaning.proofs.TypedLaws.{bvalue_keeps, bkey_keeps, side_keeps}
use Rattle.boogie_meaning.proofs.laws.well_typed_expressions_have_values_of_their_types.Goals as goal

pub returns-clause-value : goal.returns-clause-value
returns-clause-value c b ls env e u h = bvalue_keeps b ls env h e u

pub returns-clause-key : goal.returns-clause-key
returns-clause-key c b ls env es us h = bkey_keeps b ls env h es us

pub returns-clause-side : goal.returns-clause-side
returns-clause-side c b ls env e u h = side_keeps b ls env h e u
