use Rattle.boogie_loops_text.proofs.WideFaults.{one_fault}
use Rattle.boogie_loops_text.proofs.laws.one_fault.Goals as goal

pub returns : goal.returns
returns c = one_fault
