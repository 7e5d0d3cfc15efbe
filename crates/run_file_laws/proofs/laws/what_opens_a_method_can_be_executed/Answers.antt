use Rattle.run_file_laws.proofs.MethodLaws.{can_execute}
use Rattle.run_file_laws.proofs.laws.what_opens_a_method_can_be_executed.Goals as goal

pub returns : goal.returns
returns c = can_execute
