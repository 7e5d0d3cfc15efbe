use Rattle.viper_meaning.proofs.SplitLaws.{splits}
use Rattle.viper_meaning.proofs.choice_laws.a_run_takes_the_first_of_its_choices.Goals as goal

pub returns-clause-states : goal.returns-clause-states
returns-clause-states c = splits

pub returns-clause-configurations : goal.returns-clause-configurations
returns-clause-configurations c = splits
