use Rattle.boogie_print.proofs.Parsed.{one_program}
use Rattle.boogie_text.proofs.laws.one_program.Goals as goal

pub returns : goal.returns
returns c = one_program
