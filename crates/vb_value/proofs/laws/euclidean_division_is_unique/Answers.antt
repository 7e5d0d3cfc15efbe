use Rattle.vb_value.proofs.EuclidLaws.{same_from_IsEuclidean}
use Rattle.vb_value.proofs.laws.euclidean_division_is_unique.Goals as goal

pub returns : goal.returns
returns c = λ a d q r p s x y. same_from_IsEuclidean x y
