use Rattle.run_file_words.specs.Text.{lines_of}
use Rattle.run_file_boogie.proofs.BoogieNameLaws.{one_name, never_wrong}
use Rattle.run_file_boogie.proofs.HeaderLaws.{header_or_place, one_header_place}
use Rattle.run_file_boogie.proofs.boogie_laws.a_header_or_one_place.Goals as goal

pub returns-clause-either : goal.returns-clause-either
returns-clause-either c = header_or_place

pub returns-clause-one_name : goal.returns-clause-one_name
returns-clause-one_name c = λ bytes name other h k. one_name (lines_of bytes) h k

pub returns-clause-not_both : goal.returns-clause-not_both
returns-clause-not_both c = never_wrong

pub returns-clause-one_place : goal.returns-clause-one_place
returns-clause-one_place c = one_header_place
