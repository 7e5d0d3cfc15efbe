use Rattle.viper_meaning.proofs.RunVariableLaws.{produce_agrees, consume_agrees}
use Rattle.viper_meaning.proofs.run_laws.an_assertion_looks_at_its_own_variables.Goals as goal

pub returns-clause-produce : goal.returns-clause-produce
returns-clause-produce c b a sc k s vs h = produce_agrees b vs a sc k s h

pub returns-clause-consume : goal.returns-clause-consume
returns-clause-consume c b a start sc k left vs h = consume_agrees b vs a start sc k left h
