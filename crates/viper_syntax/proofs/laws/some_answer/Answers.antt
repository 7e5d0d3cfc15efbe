use Rattle.viper_syntax.proofs.AnswerLaws.{some_answer}
use Rattle.viper_syntax.proofs.laws.some_answer.Goals as goal

pub returns : goal.returns
returns c = some_answer
