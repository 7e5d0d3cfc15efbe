use Rattle.viper_meaning.proofs.RunLaws.{more_left}
use Rattle.viper_meaning.proofs.run_laws.choices_left_over_change_nothing.Goals as goal

pub returns : goal.returns
returns c = more_left
