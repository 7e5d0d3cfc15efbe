use Rattle.viper_meaning.proofs.BeginLaws.{all_reached}
use Rattle.viper_meaning.proofs.unit_laws.what_satisfies_clauses_is_reached.Goals as goal

pub returns : goal.returns
returns c = all_reached
