use Rattle.viper_state.proofs.FitsLaws.{value_set, mask_set, content_set, amount_set}
use Rattle.viper_state.proofs.laws.what_was_set_is_read.Goals as goal

pub returns-clause-value : goal.returns-clause-value
returns-clause-value c = λ l s f r u v h at. value_set h f r u v at

pub returns-clause-mask : goal.returns-clause-mask
returns-clause-mask c = λ l s f r u q h at. mask_set h f r u q at

pub returns-clause-content : goal.returns-clause-content
returns-clause-content c = λ l s p k us c h at. content_set h p k us c at

pub returns-clause-amount : goal.returns-clause-amount
returns-clause-amount c = λ l s p k us q h at. amount_set h p k us q at
