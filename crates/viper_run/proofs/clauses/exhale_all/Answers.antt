use Rattle.viper_inhale.specs.Answers.{no_memory}
use Rattle.viper_inhale.proofs.DoesLaws.{passed}
use Rattle.viper_run.proofs.clauses.exhale_all.Goals as goal

pub returns-in_err-start : goal.returns-in_err-start
returns-in_err-start c q maps fit = passed _ _ c.from_residual.ensures.1 no_memory
