use Rattle.prove_tool.proofs.StreamLaws.{certificates_found}
use Rattle.prove_tool.proofs.command.certificates.Goals as goal

pub returns-in-Ok-clause-carries_out : goal.returns-in-Ok-clause-carries_out
returns-in-Ok-clause-carries_out g c = certificates_found c.in-Ok.ensures.program c.args.steps _ c.certificates_of.ensures
