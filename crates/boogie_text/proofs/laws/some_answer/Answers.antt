use Rattle.boogie_text.proofs.Answered.{some_answer}
use Rattle.boogie_text.proofs.laws.some_answer.Goals as goal

pub returns : goal.returns
returns c = some_answer
