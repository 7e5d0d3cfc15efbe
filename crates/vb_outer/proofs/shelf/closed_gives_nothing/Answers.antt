use Rattle.vb_outer.proofs.ShelfLaws.{closed_none}
use Rattle.vb_outer.proofs.shelf.closed_gives_nothing.Goals as goal

pub returns : goal.returns
returns c = closed_none
