use Rattle.vb_tool.proofs.BoogieVerdicts.{has_outcome}
use Rattle.vb_tool.proofs.laws.a_replay_has_an_outcome.Goals as goal

pub returns : goal.returns
returns c = has_outcome
