use Rattle.enc_fold.proofs.SmallFold.{fold_linear, unfold_linear}
use Rattle.enc_fold.proofs.laws.code_is_linear.Goals as goal

pub returns-clause-fold : goal.returns-clause-fold
returns-clause-fold call c p f n formed typed = fold_linear c p formed f typed n

pub returns-clause-unfold : goal.returns-clause-unfold
returns-clause-unfold call c p f n formed typed = unfold_linear c p formed f typed n
