use Rattle.boogie_tree.specs.Literals.{AreBound}
use Rattle.enc_fold.proofs.LiteralFold.{fold_code_fits, unfold_code_fits}
use Rattle.enc_fold.proofs.laws.literals_of_code_fit.Goals as goal

pub returns-clause-fold : goal.returns-clause-fold
returns-clause-fold call k p f body n h i = (fold_code_fits AreBound k p f body h i).stmts n

pub returns-clause-unfold : goal.returns-clause-unfold
returns-clause-unfold call k p f body n h i = (unfold_code_fits AreBound k p f body h i).stmts n
