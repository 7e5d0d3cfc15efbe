use Rattle.viper_core.proofs.PartLaws.{fact_part, acc_parts, inst_parts, and_parts, implies_parts, choice_parts, amount_part}
use Rattle.viper_core.proofs.laws.assertions_have_parts.Goals as goal

pub returns-clause-fact : goal.returns-clause-fact
returns-clause-fact _ c e at = fact_part

pub returns-clause-access : goal.returns-clause-access
returns-clause-access _ c e f m at = acc_parts

pub returns-clause-instance : goal.returns-clause-instance
returns-clause-instance _ c k es m at = inst_parts

pub returns-clause-both : goal.returns-clause-both
returns-clause-both _ c a b = and_parts

pub returns-clause-implied : goal.returns-clause-implied
returns-clause-implied _ c e a = implies_parts

pub returns-clause-chosen : goal.returns-clause-chosen
returns-clause-chosen _ c e a b = choice_parts

pub returns-clause-amount : goal.returns-clause-amount
returns-clause-amount _ c e = amount_part
