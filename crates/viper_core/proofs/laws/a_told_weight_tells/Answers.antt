use Rattle.viper_core.proofs.WeightLaws.{told_light, heavy_told}
use Rattle.viper_core.proofs.laws.a_told_weight_tells.Goals as goal

pub returns-clause-light : goal.returns-clause-light
returns-clause-light _ = told_light

pub returns-clause-heavy : goal.returns-clause-heavy
returns-clause-heavy _ = heavy_told
