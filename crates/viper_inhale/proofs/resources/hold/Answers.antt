use Rattle.std.proofs.Common.{sym, ap, ◌∙◌}
use Rattle.viper_state.specs.View.{state_of}
use Rattle.viper_meaning.specs.Resource.{with_held}
use Rattle.viper_eval.specs.Answers.{no_memory}
use Rattle.viper_eval.proofs.AnswerLaws.{passed, ends_is}
use Rattle.viper_inhale.specs.View.{resource_of}
use Rattle.viper_inhale.proofs.resources.hold.Goals as goal

pub returns-in_err-set_mask-in-Place : goal.returns-in_err-set_mask-in-Place
returns-in_err-set_mask-in-Place c = passed _ _ c.from_residual.ensures.1 no_memory

pub returns-in_err-set_amount-in-Instance : goal.returns-in_err-set_amount-in-Instance
returns-in_err-set_amount-in-Instance c = passed _ _ c.from_residual-in_err-set_amount-in-Instance.ensures.1 no_memory

pub returns-in_ok-set_mask-in-Place : goal.returns-in_ok-set_mask-in-Place
returns-in_ok-set_mask-in-Place c =
    ends_is _ _ (c.in_ok-set_mask-in-Place.ensures.changed ∙ ap (λ x. with_held (state_of c.args.state.now) (resource_of x) c.args.amount) (sym c.in-Place.is))

pub returns-in_ok-set_amount-in-Instance : goal.returns-in_ok-set_amount-in-Instance
returns-in_ok-set_amount-in-Instance c =
    ends_is _ _ (c.in_ok-set_amount-in-Instance.ensures.changed ∙ ap (λ x. with_held (state_of c.args.state.now) (resource_of x) c.args.amount) (sym c.in-Instance.is))
