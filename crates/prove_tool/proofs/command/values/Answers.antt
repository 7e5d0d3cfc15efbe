use Rattle.prove_tool.proofs.StreamLaws.{values_found}
use Rattle.prove_tool.proofs.command.values.Goals as goal

pub returns-in-Ok-clause-carries_out : goal.returns-in-Ok-clause-carries_out
returns-in-Ok-clause-carries_out g c = values_found c.in-Ok.ensures.program c.args.steps _ c.values_of.ensures
