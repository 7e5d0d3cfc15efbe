use Rattle.viper_core.proofs.FormedLaws.{predicate_body_of_typed}
use Rattle.viper_core.proofs.PartLaws.{body_part, preconditions_parts, postconditions_parts, stmts_parts}
use Rattle.viper_core.proofs.laws.a_program_has_parts.Goals as goal

pub returns-clause-typed_body : goal.returns-clause-typed_body
returns-clause-typed_body _ q k d a h exists has_body = predicate_body_of_typed q h k d a exists has_body

pub returns-clause-body : goal.returns-clause-body
returns-clause-body _ q k d a h = body_part q h k d a

pub returns-clause-preconditions : goal.returns-clause-preconditions
returns-clause-preconditions _ q k m h = preconditions_parts q h k m

pub returns-clause-postconditions : goal.returns-clause-postconditions
returns-clause-postconditions _ q k m h = postconditions_parts q h k m

pub returns-clause-stmts : goal.returns-clause-stmts
returns-clause-stmts _ q k m b h = stmts_parts q h k m b
