use Rattle.vb_value.specs.Bound.{Unbounded}
use Rattle.viper_meaning.specs.Contents.{fold_instance}
use Rattle.viper_meaning.specs.Statements.{run_stmt, run_block}
use Rattle.viper_meaning.specs.Units.{unit_run}
use Rattle.viper_meaning.proofs.RunBoundLaws.{never_over, goes_never_over}
use Rattle.viper_meaning.proofs.StatementBoundLaws.{run_stmt_bounded, run_block_bounded, fold_instance_bounded, unit_run_bounded}
use Rattle.viper_meaning.proofs.statement_laws.no_statement_is_over_without_a_bound.Goals as goal

pub returns-clause-stmt : goal.returns-clause-stmt
returns-clause-stmt c = λ a x d choices. never_over (run_stmt Unbounded a x d) choices (goes_never_over (run_stmt_bounded a x d))

pub returns-clause-block : goal.returns-clause-block
returns-clause-block c = λ a xs d choices. never_over (run_block Unbounded a xs d) choices (goes_never_over (run_block_bounded a xs d))

pub returns-clause-fold : goal.returns-clause-fold
returns-clause-fold c = λ program f s sc choices. never_over (fold_instance Unbounded program f s sc) choices (goes_never_over (fold_instance_bounded program f s sc))

pub returns-clause-unit : goal.returns-clause-unit
returns-clause-unit c = λ program n o choices. never_over (unit_run Unbounded program n o) choices (goes_never_over (unit_run_bounded program n o))
