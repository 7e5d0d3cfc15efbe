use Rattle.viper_meaning.proofs.WholeLaws.{opened_whole, produce_whole, consume_whole, run_stmt_whole, run_block_whole, fold_instance_whole, unfold_instance_whole, unit_run_whole}
use Rattle.viper_meaning.proofs.statement_laws.no_place_is_held_more_than_whole.Goals as goal

pub returns-clause-opened : goal.returns-clause-opened
returns-clause-opened c = opened_whole

pub returns-clause-produce : goal.returns-clause-produce
returns-clause-produce c = produce_whole

pub returns-clause-consume : goal.returns-clause-consume
returns-clause-consume c = consume_whole

pub returns-clause-stmt : goal.returns-clause-stmt
returns-clause-stmt c = run_stmt_whole

pub returns-clause-block : goal.returns-clause-block
returns-clause-block c = run_block_whole

pub returns-clause-fold : goal.returns-clause-fold
returns-clause-fold c = fold_instance_whole

pub returns-clause-unfold : goal.returns-clause-unfold
returns-clause-unfold c = unfold_instance_whole

pub returns-clause-unit : goal.returns-clause-unit
returns-clause-unit c = unit_run_whole
