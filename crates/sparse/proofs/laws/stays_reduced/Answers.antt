use Rattle.sparse.proofs.MapLaws.{IsReduced-empty, IsReduced-set, IsReduced-IsSame}
use Rattle.sparse.proofs.laws.stays_reduced.Goals as goal

pub returns-clause-empty : goal.returns-clause-empty
returns-clause-empty g c = λ cmp eq o z. IsReduced-empty o z

pub returns-clause-set : goal.returns-clause-set
returns-clause-set g c = λ cmp eq o m r k v. IsReduced-set o m r k v

pub returns-clause-same : goal.returns-clause-same
returns-clause-same g c = λ cmp eq o laws m n a r. IsReduced-IsSame o laws m n a r
