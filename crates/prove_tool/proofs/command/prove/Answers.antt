use Rattle.std.proofs.Common.{List, ℕ, subst}
use Rattle.prove_tool.proofs.StreamLaws.{lines_searched}
use Rattle.prove_tool.proofs.command.prove.Goals as goal

pub returns-in-Ok-clause-carries_out : goal.returns-in-Ok-clause-carries_out
returns-in-Ok-clause-carries_out g c = lines_searched c.in-Ok.ensures.answered c.args.steps _ (rw (← c.deref.ensures.value) c.told.ensures)
