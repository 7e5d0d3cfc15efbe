use Rattle.viper_meaning.proofs.RunSignLaws.{produce_sign, consume_sign, forget_sign}
use Rattle.viper_meaning.proofs.run_laws.no_run_makes_a_permission_negative.Goals as goal

pub returns-clause-produce : goal.returns-clause-produce
returns-clause-produce c = produce_sign

pub returns-clause-consume : goal.returns-clause-consume
returns-clause-consume c = consume_sign

pub returns-clause-forget : goal.returns-clause-forget
returns-clause-forget c = forget_sign
