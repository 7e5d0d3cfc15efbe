use Rattle.sparse.specs.Filled.{entries_of}
use Rattle.sparse.proofs.Ends.{reduced_after}
use Rattle.sparse.proofs.builder.Builder.set.Goals as goal

pub invariant_of-self : goal.invariant_of-self
invariant_of-self g c =
    (reduced_after g.met.K.Ord.total g.met.V.Eq.laws c.self.inside.zero (entries_of c.self.inside.filled) (entries_of c.change.new.self) c.args.key c.args.value c.change.result c.self.invariant.0 c.change.ensures.same c.change.ensures.refused, c.change.ensures.sound)

pub returns-clause-reduced : goal.returns-clause-reduced
returns-clause-reduced g c =
    reduced_after g.met.K.Ord.total g.met.V.Eq.laws c.self.inside.zero (entries_of c.self.inside.filled) (entries_of c.change.new.self) c.args.key c.args.value c.change.result c.self.invariant.0 c.change.ensures.same c.change.ensures.refused
