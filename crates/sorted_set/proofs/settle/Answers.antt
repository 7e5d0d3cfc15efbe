use Rattle.std.proofs.Common.{◌++◌}
use Rattle.sorted_set.proofs.Last.{moved}
use Rattle.sorted_set.proofs.settle.Goals as goal

pub loop-key-preserved : goal.loop-key-preserved
loop-key-preserved g c =
    moved g.met.K.Ord.total c.pop.new.self.items c.loop-key.listed.items c.loop-key.settled.keys c.insert.new.self.keys (c.args.listed.now.items ++ c.args.settled.now.keys) c.in-Some.key c.requires c.in-Some.ensures.items c.in_default-insert.ensures.keys c.loop-key.invariant
