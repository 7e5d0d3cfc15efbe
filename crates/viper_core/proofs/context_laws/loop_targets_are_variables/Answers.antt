use Rattle.std.proofs.Common.{refl}
use Rattle.viper_core.proofs.TargetLaws.{targets_exist}
use Rattle.viper_core.proofs.context_laws.loop_targets_are_variables.Goals as goal

pub returns : goal.returns
returns _ m sc body h = targets_exist h refl
