use Rattle.std.proofs.Common.{ap, not}
use Rattle.sorted_set.proofs.Last.{is_there, is_put}
use Rattle.sorted_set.proofs.Rising.insert.Goals as goal

pub invariant_of-self-in-Greater : goal.invariant_of-self-in-Greater
invariant_of-self-in-Greater g c =
    (is_put g.met.K.Ord.total c.self.inside.listed.items c.self.inside.settled.keys c.deref.result.now c.args.self.now.keys c.args.key (c.is_empty.ensures.0 c.if-is_empty.true) (ap (λ s. s.keys) c.self.view_is) c.self.invariant c.deref.ensures.value c.push.new.self.items c.in_ok-push-in-Greater.ensures.items c.in-Greater.ensures).ordered

pub returns-in-Greater-clause-added : goal.returns-in-Greater-clause-added
returns-in-Greater-clause-added g c =
    ap not (is_put g.met.K.Ord.total c.self.inside.listed.items c.self.inside.settled.keys c.deref.result.now c.args.self.now.keys c.args.key (c.is_empty.ensures.0 c.if-is_empty.true) (ap (λ s. s.keys) c.self.view_is) c.self.invariant c.deref.ensures.value c.push.new.self.items c.in_ok-push-in-Greater.ensures.items c.in-Greater.ensures).is_new

pub returns-in-Greater-clause-keys : goal.returns-in-Greater-clause-keys
returns-in-Greater-clause-keys g c =
    (is_put g.met.K.Ord.total c.self.inside.listed.items c.self.inside.settled.keys c.deref.result.now c.args.self.now.keys c.args.key (c.is_empty.ensures.0 c.if-is_empty.true) (ap (λ s. s.keys) c.self.view_is) c.self.invariant c.deref.ensures.value c.push.new.self.items c.in_ok-push-in-Greater.ensures.items c.in-Greater.ensures).goes_there

pub returns-in-Greater-clause-ordered : goal.returns-in-Greater-clause-ordered
returns-in-Greater-clause-ordered g c =
    (is_put g.met.K.Ord.total c.self.inside.listed.items c.self.inside.settled.keys c.deref.result.now c.args.self.now.keys c.args.key (c.is_empty.ensures.0 c.if-is_empty.true) (ap (λ s. s.keys) c.self.view_is) c.self.invariant c.deref.ensures.value c.push.new.self.items c.in_ok-push-in-Greater.ensures.items c.in-Greater.ensures).ordered

pub returns-in-Equal-clause-added : goal.returns-in-Equal-clause-added
returns-in-Equal-clause-added g c =
    ap not (is_there g.met.K.Ord.total c.self.inside.listed.items c.self.inside.settled.keys c.deref.result.now c.args.self.now.keys c.args.key (c.is_empty.ensures.0 c.if-is_empty.true) (ap (λ s. s.keys) c.self.view_is) c.self.invariant c.deref.ensures.value c.in-Equal.ensures).0

pub returns-in-Equal-clause-keys : goal.returns-in-Equal-clause-keys
returns-in-Equal-clause-keys g c =
    (is_there g.met.K.Ord.total c.self.inside.listed.items c.self.inside.settled.keys c.deref.result.now c.args.self.now.keys c.args.key (c.is_empty.ensures.0 c.if-is_empty.true) (ap (λ s. s.keys) c.self.view_is) c.self.invariant c.deref.ensures.value c.in-Equal.ensures).1
