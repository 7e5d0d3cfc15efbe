use Rattle.std.proofs.Common.{arith}
use Rattle.boogie_loops_text.proofs.WideTextAnswers.{some_text_answer}
use Rattle.boogie_loops_text.proofs.laws.some_text_answer.Goals as goal

pub returns : goal.returns
returns c = λ bytes most. some_text_answer bytes (omega (arith, most))
