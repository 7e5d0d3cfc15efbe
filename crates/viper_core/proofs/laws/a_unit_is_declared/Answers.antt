use Rattle.viper_core.proofs.UnitLaws.{unit_method, unit_predicate}
use Rattle.viper_core.proofs.laws.a_unit_is_declared.Goals as goal

pub returns-clause-method : goal.returns-clause-method
returns-clause-method _ q i k h = unit_method q h.units i k

pub returns-clause-predicate : goal.returns-clause-predicate
returns-clause-predicate _ q i k h = unit_predicate q h.units i k
