use Rattle.sparse.proofs.MapLaws.{set-set_same}
use Rattle.sparse.proofs.laws.set_twice.Goals as goal

pub returns : goal.returns
returns g c = λ cmp eq x m r k v w. set-set_same x m r k v w
