use Rattle.viper_meaning.proofs.HeldKeptLaws.{produce_stays, consume_stays}
use Rattle.viper_meaning.proofs.run_laws.only_what_is_held_changes.Goals as goal

pub returns-clause-produce : goal.returns-clause-produce
returns-clause-produce c = produce_stays

pub returns-clause-consume : goal.returns-clause-consume
returns-clause-consume c = consume_stays
