use Rattle.viper_meaning.proofs.TypedLaws.{value_fits, value_not_blocked, opened_fits}
use Rattle.viper_meaning.proofs.laws.typed_expressions_meet_no_fallback.Goals as goal

pub returns-clause-value : goal.returns-clause-value
returns-clause-value c = value_fits

pub returns-clause-never_blocked : goal.returns-clause-never_blocked
returns-clause-never_blocked c = value_not_blocked

pub returns-clause-opened : goal.returns-clause-opened
returns-clause-opened c = opened_fits
