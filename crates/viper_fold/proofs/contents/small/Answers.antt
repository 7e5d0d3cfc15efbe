use Rattle.std.proofs.Common.{sym, ap, ◌∙◌}
use Rattle.vb_value.specs.Bound.{Bounded}
use Rattle.vb_value.specs.View.{content_of}
use Rattle.viper_meaning.specs.Ends.{fitting}
use Rattle.viper_eval.proofs.AnswerLaws.{ends_with, stops_with}
use Rattle.viper_fold.proofs.contents.small.Goals as goal

pub returns-then-is_small : goal.returns-then-is_small
returns-then-is_small c = ends_with _ (ap (λ b. fitting Bounded b c.args.at (content_of c.args.content)) (sym c.if-is_small.true ∙ c.is_small.ensures))

pub returns-else-is_small : goal.returns-else-is_small
returns-else-is_small c = stops_with _ (ap (λ b. fitting Bounded b c.args.at (content_of c.args.content)) (sym c.if-is_small.false ∙ c.is_small.ensures))
