use Rattle.viper_meaning.specs.Statements.{run_stmt, run_block}
use Rattle.viper_meaning.specs.Units.{unit_run}
use Rattle.viper_meaning.proofs.RunLaws.{more_left}
use Rattle.viper_meaning.proofs.statement_laws.choices_left_over_change_no_statement.Goals as goal

pub returns-clause-stmt : goal.returns-clause-stmt
returns-clause-stmt c = λ b a x d. more_left (run_stmt b a x d)

pub returns-clause-block : goal.returns-clause-block
returns-clause-block c = λ b a xs d. more_left (run_block b a xs d)

pub returns-clause-unit : goal.returns-clause-unit
returns-clause-unit c = λ b program n o. more_left (unit_run b program n o)
