use Rattle.viper_parse.proofs.Parsed.{some_answer}
use Rattle.viper_parse.proofs.program.some_answer.Goals as goal

pub returns : goal.returns
returns c = some_answer
