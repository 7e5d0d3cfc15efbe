use Rattle.viper_state.proofs.FitsLaws.{value_found, mask_found, content_found, amount_found}
use Rattle.viper_state.proofs.laws.what_a_layout_has_is_found.Goals as goal

pub returns-clause-value : goal.returns-clause-value
returns-clause-value c = λ l s f r u h at. value_found h f r u at

pub returns-clause-mask : goal.returns-clause-mask
returns-clause-mask c = λ l s f r u h at. mask_found h f r u at

pub returns-clause-content : goal.returns-clause-content
returns-clause-content c = λ l s p k us h at. content_found h p k us at

pub returns-clause-amount : goal.returns-clause-amount
returns-clause-amount c = λ l s p k us h at. amount_found h p k us at
