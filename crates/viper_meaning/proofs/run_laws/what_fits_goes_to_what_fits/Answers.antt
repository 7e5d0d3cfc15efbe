use Rattle.viper_meaning.proofs.ForgottenLaws.{forget_fits}
use Rattle.viper_meaning.proofs.RunFitsLaws.{produce_fits, consume_fits}
use Rattle.viper_meaning.proofs.run_laws.what_fits_goes_to_what_fits.Goals as goal

pub returns-clause-produce : goal.returns-clause-produce
returns-clause-produce c b d a sc k s formed i h g o = produce_fits b d formed a sc k s i h g o

pub returns-clause-consume : goal.returns-clause-consume
returns-clause-consume c b d a start sc k left formed i f h g o = consume_fits b d formed a start sc k left i f h g o

pub returns-clause-forget : goal.returns-clause-forget
returns-clause-forget c l s h = forget_fits l s h
