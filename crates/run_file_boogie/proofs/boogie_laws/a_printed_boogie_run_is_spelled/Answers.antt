use Rattle.run_file_boogie.proofs.BoogiePrintedRuns.{run_spelled}
use Rattle.run_file_boogie.proofs.boogie_laws.a_printed_boogie_run_is_spelled.Goals as goal

pub returns : goal.returns
returns c = run_spelled
