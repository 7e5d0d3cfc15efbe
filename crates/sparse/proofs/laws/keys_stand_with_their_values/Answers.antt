use Rattle.sparse.proofs.MapLaws.{get-keys}
use Rattle.sparse.proofs.laws.keys_stand_with_their_values.Goals as goal

pub returns : goal.returns
returns g c = λ cmp eq o m r i k h. get-keys o m r i k h
