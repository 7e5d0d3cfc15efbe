use Rattle.viper_types.proofs.StmtFinds.{one_step_of}
use Rattle.viper_types.proofs.laws.one_statement.Goals as goal

pub returns : goal.returns
returns _ k d fr a x y h g = one_step_of h g
