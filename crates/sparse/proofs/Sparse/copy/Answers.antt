use Rattle.sparse.specs.Map.{IsSame}
use Rattle.sparse.specs.Tree.{plain_of, entries}
use Rattle.sparse.proofs.MapLaws.{IsSame-default, IsReduced-IsSame}
use Rattle.sparse.proofs.Sparse.copy.Given.{Over}
use Rattle.sparse.proofs.Sparse.copy.Goals as goal

-- the copy has the same entries, and a clone of the default
same : (g : Over) (c : goal.In_ok-share g) → IsSame g.K.Ord.cmp g.V.PartialEq.eq (record { default = c.self.inside.zero; entries = entries (plain_of c.self.inside.root) }) (record { default = c.in_ok-clone.field-0; entries = entries (plain_of c.in_ok-share.field-0) })
same g c =
    rw c.in_ok-share.ensures.same (IsSame-default g.met.K.Ord.total g.met.V.Eq.laws c.requires (entries (plain_of c.self.inside.root)) c.in_ok-clone.ensures.cases)

pub invariant_of-result : goal.invariant_of-result
invariant_of-result g c =
    (IsReduced-IsSame g.met.K.Ord.total g.met.V.Eq.laws _ _ (same g c) c.self.invariant.0, rw c.in_ok-share.ensures.same c.self.invariant.1)

pub returns-clause-same : goal.returns-clause-same
returns-clause-same g c = rw (← c.self.view_is) (same g c)

pub returns-clause-copy_reduced : goal.returns-clause-copy_reduced
returns-clause-copy_reduced g c = IsReduced-IsSame g.met.K.Ord.total g.met.V.Eq.laws _ _ (same g c) c.self.invariant.0
