use Rattle.enc_fold.proofs.FoldLaws.{fold_alongside}
use Rattle.enc_fold.proofs.laws.folding_and_its_code_end_alike.Goals as goal

pub returns : goal.returns
returns call ts b c p s sc n E f typed formed coupled own fits ready = fold_alongside ts b c formed p own s sc f typed fits n E coupled ready
