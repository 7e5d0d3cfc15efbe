use Rattle.viper_meaning.proofs.RunLaws.{on-then}
use Rattle.viper_meaning.proofs.run_laws.a_run_goes_on_with_what_is_left.Goals as goal

pub returns : goal.returns
returns c = on-then
