use Rattle.run_file.proofs.PrintedRuns.{run_spelled}
use Rattle.run_file.proofs.laws.a_printed_run_is_spelled.Goals as goal

pub returns : goal.returns
returns c = run_spelled
