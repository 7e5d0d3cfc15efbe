use Rattle.sparse.proofs.MapLaws.{IsReduced-empty}
use Rattle.sparse.proofs.builder.Builder.make.Goals as goal

pub invariant_of-result : goal.invariant_of-result
invariant_of-result g c = (rw c.new.ensures.items (IsReduced-empty g.met.K.Ord.total c.args.zero), tt)

pub returns-clause-reduced : goal.returns-clause-reduced
returns-clause-reduced g c = rw c.new.ensures.items (IsReduced-empty g.met.K.Ord.total c.args.zero)
