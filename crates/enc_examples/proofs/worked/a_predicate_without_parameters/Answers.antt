use Rattle.enc_examples.proofs.Rows as rows
use Rattle.enc_examples.proofs.worked.a_predicate_without_parameters.Goals as goal

pub returns-clause-goes : goal.returns-clause-goes
returns-clause-goes call = rows.a_predicate_without_parameters_goes

pub returns-clause-not_held : goal.returns-clause-not_held
returns-clause-not_held call = rows.a_predicate_without_parameters_not_held
