use Rattle.viper_state.proofs.EachLaws.{with_value_nonnegative, with_mask_nonnegative, with_content_nonnegative, with_amount_nonnegative, empty_state_nonnegative}
use Rattle.viper_state.proofs.laws.changes_keep_what_is_not_negative.Goals as goal

pub returns-clause-value : goal.returns-clause-value
returns-clause-value c = λ s f r v h. with_value_nonnegative h f r v

pub returns-clause-mask : goal.returns-clause-mask
returns-clause-mask c = λ s f r q h e. with_mask_nonnegative h f r q e

pub returns-clause-content : goal.returns-clause-content
returns-clause-content c = λ s p k c h. with_content_nonnegative h p k c

pub returns-clause-amount : goal.returns-clause-amount
returns-clause-amount c = λ s p k q h e. with_amount_nonnegative h p k q e

pub returns-clause-start : goal.returns-clause-start
returns-clause-start c = λ l m. empty_state_nonnegative l m
