use Rattle.enc_fold.proofs.LiteralFold.{fold_printed, unfold_printed}
use Rattle.enc_fold.proofs.laws.code_can_be_printed.Goals as goal

pub returns-clause-fold : goal.returns-clause-fold
returns-clause-fold call = fold_printed

pub returns-clause-unfold : goal.returns-clause-unfold
returns-clause-unfold call = unfold_printed
