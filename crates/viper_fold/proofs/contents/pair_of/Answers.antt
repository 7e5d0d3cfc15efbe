use Rattle.vb_value.specs.Content.{Pair}
use Rattle.vb_value.specs.View.{content_of}
use Rattle.viper_eval.specs.Answers.{no_memory}
use Rattle.viper_eval.proofs.AnswerLaws.{passed, ends_is}
use Rattle.viper_fold.proofs.contents.pair_of.Goals as goal

pub returns-in_err-left : goal.returns-in_err-left
returns-in_err-left c = passed _ _ c.from_residual.ensures.1 no_memory

pub returns-in_err-right : goal.returns-in_err-right
returns-in_err-right c = passed _ _ c.from_residual-in_err-right.ensures.1 no_memory

pub returns : goal.returns
returns c = ends_is _ _ (λ i. Pair (content_of (c.in_ok-left.ensures.ok i)) (content_of (c.in_ok-right.ensures.ok i)))
