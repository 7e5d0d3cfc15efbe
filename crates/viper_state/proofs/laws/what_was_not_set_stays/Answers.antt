use Rattle.viper_state.proofs.FitsLaws.{value_elsewhere, mask_elsewhere, content_elsewhere, amount_elsewhere}
use Rattle.viper_state.proofs.laws.what_was_not_set_stays.Goals as goal

pub returns-clause-value : goal.returns-clause-value
returns-clause-value c = λ l s f r g x v h apart. value_elsewhere h f r g x v apart

pub returns-clause-mask : goal.returns-clause-mask
returns-clause-mask c = λ l s f r g x q h apart. mask_elsewhere h f r g x q apart

pub returns-clause-content : goal.returns-clause-content
returns-clause-content c = λ l s p o k j c h apart. content_elsewhere h p o k j c apart

pub returns-clause-amount : goal.returns-clause-amount
returns-clause-amount c = λ l s p o k j q h apart. amount_elsewhere h p o k j q apart
