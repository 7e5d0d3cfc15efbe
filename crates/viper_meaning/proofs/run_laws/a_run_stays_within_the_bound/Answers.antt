use Rattle.viper_meaning.proofs.RunWithinLaws.{produce_within, consume_within, forget_within}
use Rattle.viper_meaning.proofs.run_laws.a_run_stays_within_the_bound.Goals as goal

pub returns-clause-produce : goal.returns-clause-produce
returns-clause-produce c = produce_within

pub returns-clause-consume : goal.returns-clause-consume
returns-clause-consume c = consume_within

pub returns-clause-forget : goal.returns-clause-forget
returns-clause-forget c = forget_within
