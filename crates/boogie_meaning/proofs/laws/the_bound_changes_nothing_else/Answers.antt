use Rattle.boogie_meaning.proofs.BoundLaws.{goes_not_over, bvalue_bounded, bkey_bounded, side_bounded}
use Rattle.boogie_meaning.proofs.laws.the_bound_changes_nothing_else.Goals as goal

pub returns-clause-value : goal.returns-clause-value
returns-clause-value c = bvalue_bounded

pub returns-clause-key : goal.returns-clause-key
returns-clause-key c = bkey_bounded

pub returns-clause-side : goal.returns-clause-side
returns-clause-side c = side_bounded

pub returns-clause-value_is_never_over : goal.returns-clause-value_is_never_over
returns-clause-value_is_never_over c e env = goes_not_over (bvalue_bounded e env)
