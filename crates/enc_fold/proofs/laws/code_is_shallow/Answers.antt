use Rattle.enc_fold.proofs.ShallowFold.{content_flat, fold_shallow, unfold_shallow}
use Rattle.enc_fold.proofs.laws.code_is_shallow.Goals as goal

pub returns-clause-content : goal.returns-clause-content
returns-clause-content call c p a inside closed typed = content_flat c p inside closed a typed

pub returns-clause-fold : goal.returns-clause-fold
returns-clause-fold call c p f n formed typed = fold_shallow c p formed f typed n

pub returns-clause-unfold : goal.returns-clause-unfold
returns-clause-unfold call c p f n formed typed = unfold_shallow c p formed f typed n
