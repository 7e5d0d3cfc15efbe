use Rattle.viper_meaning.proofs.QuietLaws.{fold_stmt_recorded, unfold_stmt_recorded}
use Rattle.viper_meaning.proofs.statement_laws.fold_and_unfold_take_no_choice.Goals as goal

pub returns-clause-fold : goal.returns-clause-fold
returns-clause-fold z b a f c formed = fold_stmt_recorded b a f c formed.typed

pub returns-clause-unfold : goal.returns-clause-unfold
returns-clause-unfold z b a f c formed = unfold_stmt_recorded b a f c formed.typed
