use Rattle.run_file_words.proofs.AnswerLaws.{run_or_place, not_both, one_place}
use Rattle.run_file_boogie.proofs.BoogieFileLaws.{is_reader}
use Rattle.run_file_boogie.proofs.boogie_laws.a_boogie_run_or_one_place.Goals as goal

pub returns-clause-either : goal.returns-clause-either
returns-clause-either c = λ bytes d few differ. run_or_place (is_reader d differ) bytes few

pub returns-clause-not_both : goal.returns-clause-not_both
returns-clause-not_both c = λ bytes d run at differ. not_both (is_reader d differ) bytes run at

pub returns-clause-one_place : goal.returns-clause-one_place
returns-clause-one_place c = λ bytes d at to differ. one_place (is_reader d differ) bytes at to
