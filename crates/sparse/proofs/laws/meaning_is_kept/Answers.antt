use Rattle.sparse.proofs.MeaningLaws.{get-meaning_of, set-meaning_of, keys-meaning_of, IsReduced-meaning_of}
use Rattle.sparse.proofs.laws.meaning_is_kept.Goals as goal

pub returns-clause-get : goal.returns-clause-get
returns-clause-get g c = λ cmp eq f h order same x m k. get-meaning_of x m k

pub returns-clause-set : goal.returns-clause-set
returns-clause-set g c = λ cmp eq f h order same x m k v. set-meaning_of x m k v

pub returns-clause-keys : goal.returns-clause-keys
returns-clause-keys g c = λ cmp eq f h order same x m. keys-meaning_of x m

pub returns-clause-reduced : goal.returns-clause-reduced
returns-clause-reduced g c = λ cmp eq f h order same x m r. IsReduced-meaning_of x m r
