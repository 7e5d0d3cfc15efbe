use Rattle.viper_meaning.proofs.PlainLaws.{nothing_recorded}
use Rattle.viper_meaning.proofs.laws.only_unfolding_records.Goals as goal

pub returns : goal.returns
returns c = nothing_recorded
