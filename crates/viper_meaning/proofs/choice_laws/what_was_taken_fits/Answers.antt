use Rattle.viper_meaning.specs.Statements.{run_stmt, run_block}
use Rattle.viper_meaning.specs.Units.{unit_run}
use Rattle.viper_meaning.proofs.AskedLaws.{stmt_asks, block_asks, unit_asks}
use Rattle.viper_meaning.proofs.TakenLaws.{passed, fails_on_fitting}
use Rattle.viper_meaning.proofs.choice_laws.what_was_taken_fits.Goals as goal

pub returns-clause-stmt : goal.returns-clause-stmt
returns-clause-stmt c = λ b a x d. passed a.program.layout (run_stmt b a x d) (stmt_asks b a x d)

pub returns-clause-block : goal.returns-clause-block
returns-clause-block c = λ b a xs d. passed a.program.layout (run_block b a xs d) (block_asks b a xs d)

pub returns-clause-unit : goal.returns-clause-unit
returns-clause-unit c = λ b program n o. passed program.layout (unit_run b program n o) (unit_asks b program n o)

pub returns-clause-fails : goal.returns-clause-fails
returns-clause-fails c = fails_on_fitting
