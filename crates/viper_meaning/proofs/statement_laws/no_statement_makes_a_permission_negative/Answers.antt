use Rattle.viper_meaning.proofs.StatementSignLaws.{run_stmt_sign, run_block_sign, fold_instance_sign, unfold_instance_sign, unit_run_sign}
use Rattle.viper_meaning.proofs.statement_laws.no_statement_makes_a_permission_negative.Goals as goal

pub returns-clause-stmt : goal.returns-clause-stmt
returns-clause-stmt c = run_stmt_sign

pub returns-clause-block : goal.returns-clause-block
returns-clause-block c = run_block_sign

pub returns-clause-fold : goal.returns-clause-fold
returns-clause-fold c = fold_instance_sign

pub returns-clause-unfold : goal.returns-clause-unfold
returns-clause-unfold c = unfold_instance_sign

pub returns-clause-unit : goal.returns-clause-unit
returns-clause-unit c = unit_run_sign
