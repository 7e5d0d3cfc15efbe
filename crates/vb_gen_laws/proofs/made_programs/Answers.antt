use Rattle.vb_gen_laws.proofs.Weighed.{light}
use Rattle.vb_gen_laws.proofs.MadePrograms.{is_made}
use Rattle.vb_gen_laws.proofs.made_programs.Goals as goal

pub returns-clause-made : goal.returns-clause-made
returns-clause-made c = is_made

pub returns-clause-light : goal.returns-clause-light
returns-clause-light c = light
