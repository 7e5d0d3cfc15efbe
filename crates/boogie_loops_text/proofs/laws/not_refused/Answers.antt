use Rattle.boogie_loops_text.proofs.WideFaults.{not_refused}
use Rattle.boogie_loops_text.proofs.laws.not_refused.Goals as goal

pub returns : goal.returns
returns c = not_refused
