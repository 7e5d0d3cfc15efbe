use Rattle.enc_fold.proofs.CallLaws.{fold_read, unfold_read}
use Rattle.enc_fold.proofs.call_laws.types_are_read_off_the_locals.Goals as goal

pub returns-clause-fold : goal.returns-clause-fold
returns-clause-fold call c p f ts typed h many = fold_read c p ts h many f typed

pub returns-clause-unfold : goal.returns-clause-unfold
returns-clause-unfold call c p f ts typed h many = unfold_read c p ts h many f typed
