use Rattle.boogie_tree.specs.Text.{prelude}
use Rattle.boogie_text.proofs.reader.end_after.Goals as goal

pub returns : goal.returns
unfolding prelude
returns c = c.advance.ensures _ c.place_after.ensures
