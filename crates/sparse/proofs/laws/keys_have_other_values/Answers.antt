use Rattle.sparse.proofs.MapLaws.{get-key, Contains-keys}
use Rattle.sparse.proofs.laws.keys_have_other_values.Goals as goal

pub returns : goal.returns
returns g c = λ cmp eq x m r k. (get-key x m r k, Contains-keys x m r k)
