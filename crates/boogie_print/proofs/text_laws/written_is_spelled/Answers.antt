use Rattle.boogie_print.proofs.ProgramShown.{program_spelled}
use Rattle.boogie_print.proofs.text_laws.written_is_spelled.Goals as goal

pub returns : goal.returns
returns c = program_spelled
