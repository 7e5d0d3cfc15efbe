use Rattle.viper_meaning.proofs.BeginLaws.{begins_where_satisfied, satisfied_where_begun}
use Rattle.viper_meaning.proofs.unit_laws.a_method_begins_where_its_precondition_is_satisfied.Goals as goal

pub returns-clause-begins : goal.returns-clause-begins
returns-clause-begins c = λ b program k m store s qs left h there. begins_where_satisfied b program h k m there store s qs left

pub returns-clause-satisfied : goal.returns-clause-satisfied
returns-clause-satisfied c = λ b program k m o s h there. satisfied_where_begun b program h k m there o s
