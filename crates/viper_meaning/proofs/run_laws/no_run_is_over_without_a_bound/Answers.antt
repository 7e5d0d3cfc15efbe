use Rattle.vb_value.specs.Bound.{Unbounded}
use Rattle.viper_meaning.specs.Assertions.{produce, consume}
use Rattle.viper_meaning.specs.Forgotten.{forget}
use Rattle.viper_meaning.proofs.RunBoundLaws.{never_over, goes_never_over, produce_bounded, consume_bounded, forget_never_over}
use Rattle.viper_meaning.proofs.run_laws.no_run_is_over_without_a_bound.Goals as goal

pub returns-clause-produce : goal.returns-clause-produce
returns-clause-produce c = λ a sc k s choices. never_over (produce Unbounded a sc k s) choices (goes_never_over (produce_bounded a sc k s))

pub returns-clause-consume : goal.returns-clause-consume
returns-clause-consume c = λ a start sc k left choices. never_over (consume Unbounded a start sc k left) choices (goes_never_over (consume_bounded a start sc k left))

pub returns-clause-forget : goal.returns-clause-forget
returns-clause-forget c = λ layout s choices. never_over (forget layout s) choices (forget_never_over layout s)
