use Rattle.viper_meaning.proofs.MoreLaws.{values_with_more, opened_with_more}
use Rattle.viper_meaning.proofs.unit_laws.more_permission_changes_no_value.Goals as goal

pub returns-clause-value : goal.returns-clause-value
returns-clause-value _ c rest s w sc sd e u formed i h g fits = values_with_more c rest formed s w sc sd h g fits e u i

pub returns-clause-opened : goal.returns-clause-opened
returns-clause-opened _ c rest s w sc sd a d k formed i content reduced sign h g fits = opened_with_more c rest formed s w sc sd h g fits a d k i content reduced sign
