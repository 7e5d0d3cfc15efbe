use Rattle.viper_meaning.proofs.BeginLaws.{all_produced, all_consumed}
use Rattle.viper_meaning.proofs.unit_laws.clauses_are_one_assertion.Goals as goal

pub returns-clause-produced : goal.returns-clause-produced
returns-clause-produced c = all_produced

pub returns-clause-consumed : goal.returns-clause-consumed
returns-clause-consumed c = all_consumed
