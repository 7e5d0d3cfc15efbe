use Rattle.boogie_meaning.proofs.RenamedLaws.{bvalue_same, bkey_same}
use Rattle.boogie_meaning.proofs.laws.an_expression_looks_at_its_own_variables.Goals as goal

pub returns-clause-value : goal.returns-clause-value
returns-clause-value c = bvalue_same

pub returns-clause-key : goal.returns-clause-key
returns-clause-key c = bkey_same
