use Rattle.sparse.proofs.MapLaws.{IsReduced-is_set}
use Rattle.sparse.proofs.Sparse.set.Goals as goal

pub invariant_of-self : goal.invariant_of-self
invariant_of-self g c =
    (IsReduced-is_set g.met.K.Ord.total g.met.V.Eq.laws _ _ _ _ _ c.self.invariant.0 c.in_ok-self-inside.ensures.same, c.in_ok-self-inside.ensures.balanced)

pub returns-clause-changed : goal.returns-clause-changed
returns-clause-changed g c = rw (← c.self.view_is) c.in_ok-self-inside.ensures.same

pub returns-clause-reduced : goal.returns-clause-reduced
returns-clause-reduced g c = IsReduced-is_set g.met.K.Ord.total g.met.V.Eq.laws _ _ _ _ _ c.self.invariant.0 c.in_ok-self-inside.ensures.same
