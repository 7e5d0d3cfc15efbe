use Rattle.viper_types.proofs.ProgramFinds.{one_program_of}
use Rattle.viper_types.proofs.laws.one_program.Goals as goal

pub returns : goal.returns
returns _ source q r h g = one_program_of h g
