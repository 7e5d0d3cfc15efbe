use Rattle.boogie_cut_text.proofs.PrintableLaws as print
use Rattle.boogie_cut.proofs.TypedLaws.{program_typed}
use Rattle.boogie_cut_text.proofs.laws.what_is_written_is_typed_and_can_be_printed.Goals as goal

pub returns-clause-typed : goal.returns-clause-typed
returns-clause-typed c = program_typed

pub returns-clause-printable : goal.returns-clause-printable
returns-clause-printable c = print.printable
