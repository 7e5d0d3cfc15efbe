use Rattle.viper_core.proofs.BodyLaws.{body_opens_nothing, body_has_no_old, body_has_no_wildcard, precondition_has_no_old}
use Rattle.viper_core.proofs.laws.bodies_are_plain.Goals as goal

pub returns-clause-opens_nothing : goal.returns-clause-opens_nothing
returns-clause-opens_nothing _ = body_opens_nothing

pub returns-clause-has_no_old : goal.returns-clause-has_no_old
returns-clause-has_no_old _ = body_has_no_old

pub returns-clause-has_no_wildcard : goal.returns-clause-has_no_wildcard
returns-clause-has_no_wildcard _ = body_has_no_wildcard

pub returns-clause-precondition : goal.returns-clause-precondition
returns-clause-precondition _ q m a h = precondition_has_no_old q h m a
