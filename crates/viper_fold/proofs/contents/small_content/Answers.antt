use Rattle.viper_meaning.specs.Contents.{is_small}
use Rattle.viper_meaning.specs.Ends.{fitting}
use Rattle.vb_value.specs.Bound.{Bounded}
use Rattle.viper_eval.proofs.AnswerLaws.{passed, goes_then, stops_then, calmly}
use Rattle.viper_fold.proofs.contents.small_content.Goals as goal

pub returns-in_err-content_in-clause-answers : goal.returns-in_err-content_in-clause-answers
returns-in_err-content_in-clause-answers c = passed _ _ c.from_residual.ensures.1 (stops_then (λ d. fitting Bounded (is_small d) c.args.at d) c.in_err-content_in.ensures.answers)

pub returns-clause-answers : goal.returns-clause-answers
returns-clause-answers c = goes_then (λ d. fitting Bounded (is_small d) c.args.at d) c.in_ok-content_in.ensures.answers (calmly _ c.small.ensures)
