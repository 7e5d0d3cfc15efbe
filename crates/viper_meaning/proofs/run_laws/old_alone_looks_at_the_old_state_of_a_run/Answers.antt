use Rattle.viper_meaning.proofs.RunOldLaws.{produce_same, consume_same}
use Rattle.viper_meaning.proofs.run_laws.old_alone_looks_at_the_old_state_of_a_run.Goals as goal

pub returns-clause-produce : goal.returns-clause-produce
returns-clause-produce c b a sc k s old h = produce_same b old a sc k s h

pub returns-clause-consume : goal.returns-clause-consume
returns-clause-consume c b a start sc k left old h = consume_same b old a start sc k left h
