use Rattle.std.proofs.Common.{refl, []}
use Rattle.vb_base.proofs.texts.place_after.Goals as goal

pub returns : goal.returns
returns c = c.advance.ensures [] record { line = refl; col = refl }
