use Rattle.viper_meaning.proofs.RunBoundLaws.{small_run}
use Rattle.viper_meaning.proofs.StatementBoundLaws.{run_stmt_bounded, run_block_bounded, fold_instance_bounded, unfold_instance_bounded, unit_run_bounded}
use Rattle.viper_meaning.proofs.statement_laws.the_bound_changes_nothing_else_of_a_statement.Goals as goal

pub returns-clause-stmt : goal.returns-clause-stmt
returns-clause-stmt c = λ a x d. small_run (run_stmt_bounded a x d)

pub returns-clause-block : goal.returns-clause-block
returns-clause-block c = λ a xs d. small_run (run_block_bounded a xs d)

pub returns-clause-fold : goal.returns-clause-fold
returns-clause-fold c = λ program f s sc. small_run (fold_instance_bounded program f s sc)

pub returns-clause-unfold : goal.returns-clause-unfold
returns-clause-unfold c = unfold_instance_bounded

pub returns-clause-unit : goal.returns-clause-unit
returns-clause-unit c = λ program n o. small_run (unit_run_bounded program n o)
