use Rattle.viper_meaning.proofs.AskedLaws.{produce_asks, consume_asks, forget_asks, fold_asks, stmt_asks, block_asks, unit_asks}
use Rattle.viper_meaning.proofs.choice_laws.a_run_asks_for_what_it_takes.Goals as goal

pub returns-clause-produce : goal.returns-clause-produce
returns-clause-produce c l = produce_asks

pub returns-clause-consume : goal.returns-clause-consume
returns-clause-consume c l = consume_asks

pub returns-clause-forget : goal.returns-clause-forget
returns-clause-forget c l = forget_asks

pub returns-clause-fold : goal.returns-clause-fold
returns-clause-fold c l = fold_asks

pub returns-clause-stmt : goal.returns-clause-stmt
returns-clause-stmt c = stmt_asks

pub returns-clause-block : goal.returns-clause-block
returns-clause-block c = block_asks

pub returns-clause-unit : goal.returns-clause-unit
returns-clause-unit c = unit_asks
