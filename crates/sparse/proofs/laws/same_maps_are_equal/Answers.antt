use Rattle.sparse.proofs.MapLaws.{map_from_same}
use Rattle.sparse.proofs.laws.same_maps_are_equal.Goals as goal

pub returns : goal.returns
returns g c = λ cmp eq x m n a. map_from_same x m n a
