use Rattle.std.proofs.Common.{sym, ap}
use Rattle.vb_value.specs.Bound.{Bounded}
use Rattle.vb_value.specs.View.{content_of}
use Rattle.viper_core.specs.View.{assertion_of}
use Rattle.viper_state.specs.View.{state_of}
use Rattle.viper_meaning.specs.Value.{opened}
use Rattle.viper_eval.proofs.AnswerLaws.{same_answers}
use Rattle.viper_eval.proofs.calls.open_body.Goals as goal

pub returns-clause-opened : goal.returns-clause-opened
returns-clause-opened c =
    c.opening.ensures _ _ _ _ (same_answers (ap (λ sc. opened Bounded (assertion_of c.args.body.now) (content_of c.args.content.now) (state_of c.args.state.now) sc c.args.scale) (sym c.of.ensures))
    c.open_in.ensures.answers)
