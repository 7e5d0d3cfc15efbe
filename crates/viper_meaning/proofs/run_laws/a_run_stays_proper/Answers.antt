use Rattle.viper_meaning.proofs.RunWithinLaws.{produce_proper, consume_proper, forget_proper}
use Rattle.viper_meaning.proofs.run_laws.a_run_stays_proper.Goals as goal

pub returns-clause-produce : goal.returns-clause-produce
returns-clause-produce c = produce_proper

pub returns-clause-consume : goal.returns-clause-consume
returns-clause-consume c = consume_proper

pub returns-clause-forget : goal.returns-clause-forget
returns-clause-forget c = forget_proper
