use Rattle.viper_state.proofs.EachLaws.{with_value_has, with_mask_has, with_content_has, with_amount_has}
use Rattle.viper_state.proofs.ProperLaws.{empty_state_proper}
use Rattle.viper_state.proofs.laws.changes_keep_what_is_proper.Goals as goal

pub returns-clause-value : goal.returns-clause-value
returns-clause-value c = λ b s f r v h q. with_value_has h f r v q

pub returns-clause-mask : goal.returns-clause-mask
returns-clause-mask c = λ b s f r q h p. with_mask_has h f r q p

pub returns-clause-content : goal.returns-clause-content
returns-clause-content c = λ b s p k c h key q. with_content_has h p k c key q

pub returns-clause-amount : goal.returns-clause-amount
returns-clause-amount c = λ b s p k q h key f. with_amount_has h p k q key f

pub returns-clause-start : goal.returns-clause-start
returns-clause-start c = empty_state_proper
