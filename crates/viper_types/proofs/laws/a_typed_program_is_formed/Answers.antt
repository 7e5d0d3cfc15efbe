use Rattle.viper_types.proofs.FormedProgram.{typed_program_is_formed}
use Rattle.viper_types.proofs.laws.a_typed_program_is_formed.Goals as goal

pub returns : goal.returns
returns _ source q good h = typed_program_is_formed good h
