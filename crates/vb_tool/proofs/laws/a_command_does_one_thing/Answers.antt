use Rattle.vb_tool.proofs.Answered.{one_deed}
use Rattle.vb_tool.proofs.laws.a_command_does_one_thing.Goals as goal

pub returns : goal.returns
returns c = one_deed
