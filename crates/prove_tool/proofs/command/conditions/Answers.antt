use Rattle.prove_tool.proofs.StreamLaws.{conditions_stated}
use Rattle.prove_tool.proofs.command.conditions.Goals as goal

pub returns-in-Ok-clause-carries_out : goal.returns-in-Ok-clause-carries_out
returns-in-Ok-clause-carries_out g c = conditions_stated c.in-Ok.ensures.program _ c.conditions_of.ensures
