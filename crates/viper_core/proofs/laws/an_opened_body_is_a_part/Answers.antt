use Rattle.viper_core.proofs.PartLaws.{unfolding_part, opened_parts}
use Rattle.viper_core.proofs.StmtParts.{folded_parts, unfolded_parts}
use Rattle.viper_core.proofs.laws.an_opened_body_is_a_part.Goals as goal

pub returns-clause-unfolding : goal.returns-clause-unfolding
returns-clause-unfolding _ c k es m a e at u h = opened_parts (unfolding_part h)

pub returns-clause-fold : goal.returns-clause-fold
returns-clause-fold _ m sc f = folded_parts

pub returns-clause-unfold : goal.returns-clause-unfold
returns-clause-unfold _ m sc f = unfolded_parts
