use Rattle.moves.proofs.PrintableLaws.{moves_reduced}
use Rattle.moves.proofs.laws.moves_are_reduced.Goals as goal

pub returns : goal.returns
returns c = moves_reduced
