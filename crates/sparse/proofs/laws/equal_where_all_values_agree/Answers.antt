use Rattle.sparse.proofs.MapLaws.{map_from_get}
use Rattle.sparse.proofs.laws.equal_where_all_values_agree.Goals as goal

pub returns : goal.returns
returns g c = λ cmp eq x m n r s zeros agree. map_from_get x m n r s zeros agree
