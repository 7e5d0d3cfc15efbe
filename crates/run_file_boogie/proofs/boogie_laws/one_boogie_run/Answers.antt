use Rattle.run_file_words.proofs.AnswerLaws.{one_run}
use Rattle.run_file_boogie.proofs.BoogieFileLaws.{is_reader}
use Rattle.run_file_boogie.proofs.boogie_laws.one_boogie_run.Goals as goal

pub returns : goal.returns
returns c = λ bytes d a b differ. one_run (is_reader d differ) bytes a b
