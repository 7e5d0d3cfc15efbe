use Rattle.viper_meaning.proofs.SatProduceLaws.{produced_satisfies, bounded_satisfies}
use Rattle.viper_meaning.proofs.sat_laws.what_is_produced_satisfies.Goals as goal

pub returns-clause-unbounded : goal.returns-clause-unbounded
returns-clause-unbounded c = produced_satisfies

pub returns-clause-bounded : goal.returns-clause-bounded
returns-clause-bounded c = bounded_satisfies
