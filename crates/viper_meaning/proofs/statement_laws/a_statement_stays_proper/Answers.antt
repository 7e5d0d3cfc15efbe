use Rattle.viper_meaning.proofs.StatementKeptLaws.{run_stmt_proper, run_block_proper, fold_instance_proper, unfold_instance_proper, unit_run_proper}
use Rattle.viper_meaning.proofs.statement_laws.a_statement_stays_proper.Goals as goal

pub returns-clause-stmt : goal.returns-clause-stmt
returns-clause-stmt c = run_stmt_proper

pub returns-clause-block : goal.returns-clause-block
returns-clause-block c = run_block_proper

pub returns-clause-fold : goal.returns-clause-fold
returns-clause-fold c = fold_instance_proper

pub returns-clause-unfold : goal.returns-clause-unfold
returns-clause-unfold c = unfold_instance_proper

pub returns-clause-unit : goal.returns-clause-unit
returns-clause-unit c = unit_run_proper
