use Rattle.viper_state.proofs.FitsLaws.{with_value_fits, with_mask_fits, with_content_fits, with_amount_fits, empty_state_fits}
use Rattle.viper_state.proofs.laws.changes_keep_what_fits.Goals as goal

pub returns-clause-value : goal.returns-clause-value
returns-clause-value c = λ l s f r u v h at fits. with_value_fits h f r u v at fits

pub returns-clause-mask : goal.returns-clause-mask
returns-clause-mask c = λ l s f r q h fits. with_mask_fits h f r q fits

pub returns-clause-content : goal.returns-clause-content
returns-clause-content c = λ l s p us k c h at key fits. with_content_fits h p us k c at key fits

pub returns-clause-amount : goal.returns-clause-amount
returns-clause-amount c = λ l s p us k q h at key fits. with_amount_fits h p us k q at key fits

pub returns-clause-start : goal.returns-clause-start
returns-clause-start c = λ l m h. empty_state_fits l m h
