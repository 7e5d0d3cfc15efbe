use Rattle.std.proofs.Common.{sym, subst, Err}
use Rattle.viper_parse.specs.Answers.{Gives, Refuses}
use Rattle.viper_parse.proofs.Parsed.{spelled, only_one, refuses_only, refuses_there}
use Rattle.viper_parse.proofs.GoodLaws.{good}
use Rattle.viper_parse.proofs.program.parse_slice.Goals as goal

pub returns-in-Ok-clause-found : goal.returns-in-Ok-clause-found
returns-in-Ok-clause-found c = spelled c.in-Ok.ensures

pub returns-in-Ok-clause-only : goal.returns-in-Ok-clause-only
returns-in-Ok-clause-only c = λ p h. only_one _ p c.in-Ok.ensures h

pub returns-in-Err-clause-only : goal.returns-in-Err-clause-only
returns-in-Err-clause-only c = λ p h. subst (λ f. Gives (Err f) p) (sym c.fault.ensures) (refuses_only _ c.args.end _ c.in-Err.ensures p h)

pub returns-in-Err-clause-place : goal.returns-in-Err-clause-place
returns-in-Err-clause-place c = subst (λ f. Refuses (Err f) c.args.tokens.now c.args.end) (sym c.fault.ensures) (refuses_there _ c.args.end _ c.in-Err.ensures)

pub returns-in-Ok-clause-good : goal.returns-in-Ok-clause-good
returns-in-Ok-clause-good c = λ w. good w (spelled c.in-Ok.ensures)
