use Rattle.viper_meaning.proofs.ClauseLaws.{one_produced, two_produced, one_consumed, two_consumed}
use Rattle.viper_meaning.proofs.statement_laws.clauses_are_one_conjunction.Goals as goal

pub returns-clause-one_produced : goal.returns-clause-one_produced
returns-clause-one_produced c = one_produced

pub returns-clause-two_produced : goal.returns-clause-two_produced
returns-clause-two_produced c = two_produced

pub returns-clause-one_consumed : goal.returns-clause-one_consumed
returns-clause-one_consumed c = one_consumed

pub returns-clause-two_consumed : goal.returns-clause-two_consumed
returns-clause-two_consumed c = two_consumed
