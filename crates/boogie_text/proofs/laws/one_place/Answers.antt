use Rattle.vb_base.proofs.PlaceLaws.{one_place}
use Rattle.boogie_grammar.specs.Spells.{IsProgram}
use Rattle.boogie_text.proofs.laws.one_place.Goals as goal

pub returns : goal.returns
returns c = one_place IsProgram
