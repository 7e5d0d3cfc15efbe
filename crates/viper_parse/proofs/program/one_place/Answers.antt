use Rattle.viper_parse.specs.Answers.{IsProgram}
use Rattle.vb_base.proofs.PlaceLaws.{one_place}
use Rattle.viper_parse.proofs.program.one_place.Goals as goal

pub returns : goal.returns
returns c = one_place IsProgram
