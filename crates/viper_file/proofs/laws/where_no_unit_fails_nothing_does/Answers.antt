use Rattle.viper_file.proofs.UnitLaws.{no_execution_fails, nothing_fails}
use Rattle.viper_file.proofs.Verdicts.{accepted_formed}
use Rattle.viper_file.proofs.laws.where_no_unit_fails_nothing_does.Goals as goal

pub returns-clause-methods : goal.returns-clause-methods
returns-clause-methods c bytes program accepted none = nothing_fails program (accepted_formed accepted) none

pub returns-clause-executions : goal.returns-clause-executions
returns-clause-executions c bytes program framed none b = no_execution_fails program framed none b
