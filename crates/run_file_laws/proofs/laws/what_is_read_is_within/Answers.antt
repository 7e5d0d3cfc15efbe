use Rattle.run_file_laws.proofs.LiteralLaws.{program_within}
use Rattle.run_file_laws.proofs.laws.what_is_read_is_within.Goals as goal

pub returns : goal.returns
returns c = program_within
