use Rattle.viper_meaning.proofs.SatLaws.{satisfied_is_reached, bounded_is_reached}
use Rattle.viper_meaning.proofs.sat_laws.what_satisfies_is_reached.Goals as goal

pub returns-clause-unbounded : goal.returns-clause-unbounded
returns-clause-unbounded c = satisfied_is_reached

pub returns-clause-bounded : goal.returns-clause-bounded
returns-clause-bounded c = bounded_is_reached
