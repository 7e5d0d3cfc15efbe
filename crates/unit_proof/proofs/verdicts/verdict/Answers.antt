use Rattle.std.proofs.Common.{refl}
use Rattle.unit_proof.proofs.verdicts.verdict.Goals as goal

pub returns-in-Ok : goal.returns-in-Ok
returns-in-Ok c flag = c.in-Ok.ensures.shown refl
