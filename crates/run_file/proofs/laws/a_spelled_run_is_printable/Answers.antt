use Rattle.run_file.proofs.SpelledLaws.{spelled_good}
use Rattle.run_file.proofs.laws.a_spelled_run_is_printable.Goals as goal

pub returns : goal.returns
returns c = spelled_good
