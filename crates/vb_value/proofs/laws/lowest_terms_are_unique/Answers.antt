use Rattle.vb_value.proofs.FractionLaws.{same_from_cross}
use Rattle.vb_value.proofs.laws.lowest_terms_are_unique.Goals as goal

pub returns : goal.returns
returns c = same_from_cross
