use Rattle.viper_core.proofs.WeightLaws.{predicate_weight-weight, method_weight-weight}
use Rattle.viper_core.proofs.laws.a_part_weighs_no_more.Goals as goal

pub returns-clause-predicate : goal.returns-clause-predicate
returns-clause-predicate _ = predicate_weight-weight

pub returns-clause-method : goal.returns-clause-method
returns-clause-method _ = method_weight-weight
