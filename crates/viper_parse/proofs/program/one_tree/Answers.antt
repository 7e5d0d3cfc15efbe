use Rattle.viper_parse.proofs.Parsed.{one_program}
use Rattle.viper_parse.proofs.program.one_tree.Goals as goal

pub returns : goal.returns
returns c = one_program
