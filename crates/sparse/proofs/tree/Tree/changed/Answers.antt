use Rattle.std.proofs.Common.{sym}
use Rattle.sparse.specs.Tree.{plain_of, entries, height}
use Rattle.sparse.proofs.Turns.{changed_taken, changed_put}
use Rattle.sparse.proofs.tree.Tree.changed.Goals as goal

pub returns-then-eq : goal.returns-then-eq
returns-then-eq g c =
    let both = changed_taken g.met.K.Ord.total g.met.V.Eq.laws plain_of c.args.zero.now (entries (plain_of c.args.self.now)) c.args.key c.args.value (height (plain_of c.args.self.now)) (sym c.if-eq.ensures) c.without.result c.without.ensures in
    record { balanced = both.0; same = both.1 }

pub returns : goal.returns
returns g c =
    let put = rw c.in_ok-entry.ensures.ok at c.with.ensures in
    let both = changed_put g.met.K.Ord.total g.met.V.Eq.laws plain_of c.args.zero.now (entries (plain_of c.args.self.now)) c.args.key c.args.value (height (plain_of c.args.self.now)) (sym c.if-eq.ensures) c.with.result put in
    record { balanced = both.0; same = both.1 }
