use Rattle.viper_meaning.proofs.RunBoundLaws.{small_run, produce_bounded, consume_bounded}
use Rattle.viper_meaning.proofs.run_laws.the_bound_changes_nothing_else_of_a_run.Goals as goal

pub returns-clause-produce : goal.returns-clause-produce
returns-clause-produce c = λ a sc k s. small_run (produce_bounded a sc k s)

pub returns-clause-consume : goal.returns-clause-consume
returns-clause-consume c = λ a start sc k left. small_run (consume_bounded a start sc k left)
