use Rattle.viper_meaning.specs.Statements.{run_stmt, run_block}
use Rattle.viper_meaning.specs.Units.{unit_run}
use Rattle.viper_meaning.proofs.SplitLaws.{splits}
use Rattle.viper_meaning.proofs.choice_laws.a_statement_takes_the_first_of_its_choices.Goals as goal

pub returns-clause-stmt : goal.returns-clause-stmt
returns-clause-stmt c = λ b a x d. splits (run_stmt b a x d)

pub returns-clause-block : goal.returns-clause-block
returns-clause-block c = λ b a xs d. splits (run_block b a xs d)

pub returns-clause-unit : goal.returns-clause-unit
returns-clause-unit c = λ b program n o. splits (unit_run b program n o)
