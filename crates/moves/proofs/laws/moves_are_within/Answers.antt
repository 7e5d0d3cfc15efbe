use Rattle.moves.proofs.PrintableLaws.{moves_within}
use Rattle.moves.proofs.laws.moves_are_within.Goals as goal

pub returns : goal.returns
returns c = moves_within
