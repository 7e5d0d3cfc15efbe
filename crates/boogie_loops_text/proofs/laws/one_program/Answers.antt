use Rattle.boogie_loops_text.proofs.WideParsed.{one_program}
use Rattle.boogie_loops_text.proofs.laws.one_program.Goals as goal

pub returns : goal.returns
returns c = one_program
