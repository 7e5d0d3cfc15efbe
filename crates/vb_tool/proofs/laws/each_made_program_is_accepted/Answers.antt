use Rattle.vb_tool.proofs.MakingLaws.{made_accepted}
use Rattle.vb_tool.proofs.laws.each_made_program_is_accepted.Goals as goal

pub returns : goal.returns
returns c = made_accepted
