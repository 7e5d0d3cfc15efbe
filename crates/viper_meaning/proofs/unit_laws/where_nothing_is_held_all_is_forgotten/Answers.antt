use Rattle.viper_meaning.proofs.EmptiedLaws.{forgets_all, takes_any}
use Rattle.viper_meaning.proofs.unit_laws.where_nothing_is_held_all_is_forgotten.Goals as goal

pub returns-clause-forgotten : goal.returns-clause-forgotten
returns-clause-forgotten c = λ l s m h g. forgets_all h g

pub returns-clause-taken : goal.returns-clause-taken
returns-clause-taken c = takes_any
