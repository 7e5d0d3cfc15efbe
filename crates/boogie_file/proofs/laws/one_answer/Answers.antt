use Rattle.boogie_file.proofs.Verdicts.{has_one_answer}
use Rattle.boogie_file.proofs.laws.one_answer.Goals as goal

pub returns : goal.returns
returns c = has_one_answer
