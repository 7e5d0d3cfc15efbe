use Rattle.sparse.proofs.MapLaws.{set-default}
use Rattle.sparse.proofs.laws.default_leaves_no_entry.Goals as goal

pub returns : goal.returns
returns g c = λ cmp eq x m r k found. set-default x m r k found
