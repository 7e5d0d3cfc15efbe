use Rattle.viper_meaning.proofs.ForgottenLaws.{value_left, content_left}
use Rattle.viper_meaning.proofs.run_laws.what_is_not_held_is_forgotten.Goals as goal

pub returns-clause-value : goal.returns-clause-value
returns-clause-value c l s m field r q h g e = value_left l s m h g field r q e

pub returns-clause-content : goal.returns-clause-content
returns-clause-content c l s m p key q h g e = content_left l s m h g p key q e
