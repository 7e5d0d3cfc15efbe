use Rattle.viper_meaning.proofs.BoundLaws.{goes_not_over, value_bounded, opened_bounded}
use Rattle.viper_meaning.proofs.laws.the_bound_changes_nothing_else.Goals as goal

pub returns-clause-value : goal.returns-clause-value
returns-clause-value c = value_bounded

pub returns-clause-opened : goal.returns-clause-opened
returns-clause-opened c = opened_bounded

pub returns-clause-value_is_never_over : goal.returns-clause-value_is_never_over
returns-clause-value_is_never_over c e s sc = goes_not_over (value_bounded e s sc)

pub returns-clause-opened_is_never_over : goal.returns-clause-opened_is_never_over
returns-clause-opened_is_never_over c a d s sc k = goes_not_over (opened_bounded a d s sc k)
