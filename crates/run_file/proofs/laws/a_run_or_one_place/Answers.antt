use Rattle.run_file.proofs.ScopeLaws.{names_apart}
use Rattle.run_file_words.proofs.AnswerLaws.{run_or_place, not_both, one_place}
use Rattle.run_file.proofs.FileLaws.{is_reader}
use Rattle.run_file.proofs.laws.a_run_or_one_place.Goals as goal

pub returns-clause-either : goal.returns-clause-either
returns-clause-either c = λ bytes p n few formed. run_or_place (is_reader p n (names_apart p n formed)) bytes few

pub returns-clause-not_both : goal.returns-clause-not_both
returns-clause-not_both c = λ bytes p n run at formed. not_both (is_reader p n (names_apart p n formed)) bytes run at

pub returns-clause-one_place : goal.returns-clause-one_place
returns-clause-one_place c = λ bytes p n at to formed. one_place (is_reader p n (names_apart p n formed)) bytes at to
