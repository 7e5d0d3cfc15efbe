use Rattle.viper_meaning.proofs.SignLaws.{taken_sign, opened_sign}
use Rattle.viper_meaning.proofs.laws.no_permission_becomes_negative.Goals as goal

pub returns-clause-taken : goal.returns-clause-taken
returns-clause-taken c = taken_sign

pub returns-clause-opened : goal.returns-clause-opened
returns-clause-opened c = opened_sign
