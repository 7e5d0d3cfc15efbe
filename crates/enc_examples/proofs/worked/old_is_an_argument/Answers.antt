use Rattle.enc_examples.proofs.Rows as rows
use Rattle.enc_examples.proofs.worked.old_is_an_argument.Goals as goal

pub returns-clause-goes : goal.returns-clause-goes
returns-clause-goes call = rows.old_is_an_argument_goes

pub returns-clause-not_held : goal.returns-clause-not_held
returns-clause-not_held call = rows.old_is_an_argument_not_held
