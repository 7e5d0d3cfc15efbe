use Rattle.run_file_laws.proofs.BoogieRunLaws.{can_run}
use Rattle.run_file_laws.proofs.laws.what_a_file_spells_can_be_run.Goals as goal

pub returns : goal.returns
returns c = can_run
