use Rattle.enc_fold.proofs.TypedFold.{fold_typed, unfold_typed}
use Rattle.enc_fold.proofs.laws.code_is_well_typed.Goals as goal

pub returns-clause-fold : goal.returns-clause-fold
returns-clause-fold call = fold_typed

pub returns-clause-unfold : goal.returns-clause-unfold
returns-clause-unfold call = unfold_typed
