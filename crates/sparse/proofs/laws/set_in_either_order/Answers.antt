use Rattle.sparse.proofs.MapLaws.{set-set_other}
use Rattle.sparse.proofs.laws.set_in_either_order.Goals as goal

pub returns : goal.returns
returns g c = λ cmp eq x m r k q v w apart. set-set_other x m r k q v w apart
