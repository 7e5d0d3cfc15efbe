use Rattle.prove_tool.proofs.StreamLaws.{lines_checked}
use Rattle.prove_tool.proofs.command.certify.Goals as goal

pub returns-in-Ok-clause-carries_out : goal.returns-in-Ok-clause-carries_out
returns-in-Ok-clause-carries_out g c = lines_checked c.in-Ok.ensures.answered.0 c.in-Ok.ensures.answered.1 _ (rw (← c.deref.ensures.value) c.told.ensures)
