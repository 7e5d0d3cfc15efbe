use Rattle.run_file.proofs.ScopeLaws.{names_apart}
use Rattle.run_file_words.proofs.AnswerLaws.{one_run}
use Rattle.run_file.proofs.FileLaws.{is_reader}
use Rattle.run_file.proofs.laws.one_run.Goals as goal

pub returns : goal.returns
returns c = λ bytes p n a b formed. one_run (is_reader p n (names_apart p n formed)) bytes a b
