use Rattle.boogie_loops_text.proofs.WideAnswered.{some_answer}
use Rattle.boogie_loops_text.proofs.laws.some_answer.Goals as goal

pub returns : goal.returns
returns c = some_answer
