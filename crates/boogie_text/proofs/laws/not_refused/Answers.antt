use Rattle.boogie_text.proofs.FaultLaws.{not_refused}
use Rattle.boogie_text.proofs.laws.not_refused.Goals as goal

pub returns : goal.returns
returns c = not_refused
