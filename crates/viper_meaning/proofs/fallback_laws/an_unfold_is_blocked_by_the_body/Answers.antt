use Rattle.viper_meaning.proofs.UnfoldLaws.{unfold_blocked, unfolding_blocked}
use Rattle.viper_meaning.proofs.fallback_laws.an_unfold_is_blocked_by_the_body.Goals as goal

pub returns-clause-unfold : goal.returns-clause-unfold
returns-clause-unfold _ = unfold_blocked

pub returns-clause-inside : goal.returns-clause-inside
returns-clause-inside _ = unfolding_blocked
