use Rattle.boogie_meaning.proofs.ValueLaws.{empty_typed, get_typed, set_typed}
use Rattle.boogie_meaning.proofs.laws.maps_keep_their_type.Goals as goal

pub returns-clause-empty : goal.returns-clause-empty
returns-clause-empty c us u = empty_typed

pub returns-clause-get : goal.returns-clause-get
returns-clause-get c us u m k h = get_typed h k

pub returns-clause-set : goal.returns-clause-set
returns-clause-set c us u m k v h = set_typed h k v
