use Rattle.viper_meaning.proofs.StatementKeptLaws.{run_stmt_within, run_block_within, fold_instance_within, unfold_instance_within, unit_run_within}
use Rattle.viper_meaning.proofs.statement_laws.a_statement_stays_within_the_bound.Goals as goal

pub returns-clause-stmt : goal.returns-clause-stmt
returns-clause-stmt c = run_stmt_within

pub returns-clause-block : goal.returns-clause-block
returns-clause-block c = run_block_within

pub returns-clause-fold : goal.returns-clause-fold
returns-clause-fold c = fold_instance_within

pub returns-clause-unfold : goal.returns-clause-unfold
returns-clause-unfold c = unfold_instance_within

pub returns-clause-unit : goal.returns-clause-unit
returns-clause-unit c = unit_run_within
