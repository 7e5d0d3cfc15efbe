use Rattle.sparse.proofs.MapLaws.{get-set_same}
use Rattle.sparse.proofs.laws.get_after_set.Goals as goal

pub returns : goal.returns
returns g c = λ cmp eq x m r k v. get-set_same x m r k v
