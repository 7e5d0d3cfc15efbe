use Rattle.boogie_meaning.proofs.FitsLaws.{expression_fits, statements_fit}
use Rattle.boogie_meaning.proofs.laws.what_is_typed_can_be_printed.Goals as goal

pub returns-clause-expression : goal.returns-clause-expression
returns-clause-expression call = expression_fits

pub returns-clause-statements : goal.returns-clause-statements
returns-clause-statements call = statements_fit
