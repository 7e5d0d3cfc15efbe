use Rattle.boogie_text.proofs.FaultLaws.{one_fault}
use Rattle.boogie_text.proofs.laws.one_fault.Goals as goal

pub returns : goal.returns
returns c = one_fault
