use Rattle.viper_meaning.proofs.VariableLaws.{value_agrees}
use Rattle.viper_meaning.proofs.laws.an_expression_looks_at_its_own_variables.Goals as goal

pub returns : goal.returns
returns c b e s sc vs h = value_agrees b vs e s sc h
