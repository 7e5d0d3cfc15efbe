use Rattle.viper_meaning.proofs.FoldLaws.{fold_blocked}
use Rattle.viper_meaning.proofs.fallback_laws.a_fold_is_blocked_by_another_content.Goals as goal

pub returns : goal.returns
returns _ = fold_blocked
