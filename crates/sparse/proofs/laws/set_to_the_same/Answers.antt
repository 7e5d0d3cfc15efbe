use Rattle.sparse.proofs.MapLaws.{set-get}
use Rattle.sparse.proofs.laws.set_to_the_same.Goals as goal

pub returns : goal.returns
returns g c = λ cmp eq x m r k. set-get x m r k
