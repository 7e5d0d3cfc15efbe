use Rattle.sparse.proofs.Ends.{above_by_test}
use Rattle.sparse.proofs.builder.is_above.Goals as goal

pub returns-in-Some : goal.returns-in-Some
returns-in-Some g c =
    let last = c.in-Some.last.now in
    λ h. above_by_test g.K.Ord.cmp c.args.key.now g.met.K.Ord.total c.args.list.now last c.in-Some.ensures.value c.requires (rw (← c.deref.ensures, ← c.cmp.ensures, ← c.is_gt.ensures) h)
