use Rattle.viper_core.proofs.TypingLaws.{one_type}
use Rattle.viper_core.proofs.laws.an_expression_has_one_type.Goals as goal

pub returns : goal.returns
returns _ c e u v h k = one_type h k
