use Rattle.viper_meaning.proofs.WithinLaws.{value_within, opened_within}
use Rattle.viper_meaning.proofs.laws.what_is_within_stays_within.Goals as goal

pub returns-clause-value : goal.returns-clause-value
returns-clause-value c = value_within

pub returns-clause-opened : goal.returns-clause-opened
returns-clause-opened c = opened_within
