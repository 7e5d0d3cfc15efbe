use Rattle.viper_meaning.proofs.BeginLaws.{all_satisfied}
use Rattle.viper_meaning.proofs.unit_laws.what_clauses_make_satisfies_them.Goals as goal

pub returns : goal.returns
returns c = all_satisfied
