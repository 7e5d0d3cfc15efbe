use Rattle.sparse.proofs.MapLaws.{get-set_other}
use Rattle.sparse.proofs.laws.get_after_set_elsewhere.Goals as goal

pub returns : goal.returns
returns g c = λ cmp eq x m r k q v apart. get-set_other x m r k q v apart
