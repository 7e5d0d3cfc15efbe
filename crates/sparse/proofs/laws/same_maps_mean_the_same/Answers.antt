use Rattle.sparse.proofs.MeaningLaws.{meaning_of-same}
use Rattle.sparse.proofs.laws.same_maps_mean_the_same.Goals as goal

pub returns : goal.returns
returns g c = λ cmp eq f h order same x exact m n a. meaning_of-same x exact m n a
