use Rattle.moves.proofs.PrintableLaws.{moves_printable}
use Rattle.moves.proofs.laws.moves_can_be_printed.Goals as goal

pub returns : goal.returns
returns c = moves_printable
