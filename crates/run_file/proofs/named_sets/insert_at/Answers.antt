use Rattle.std.proofs.Common.{arith}
use Rattle.run_file.proofs.NamedSetLaws.{grown, put_there}
use Rattle.run_file.proofs.named_sets.insert_at.Goals as goal

pub loop-alloc-preserved : goal.loop-alloc-preserved
loop-alloc-preserved g c =
    grown g.K.Ord.cmp c.args.key c.args.number c.args.sets.now.items c.loop-alloc.sets.items c.push.new.self.items c.new.result c.in_ok-push.ensures.items c.new.ensures (omega (arith, c.loop-alloc-test.true, c.len.ensures)) c.loop-alloc.invariant

pub returns-clause-keys : goal.returns-clause-keys
returns-clause-keys g c =
    put_there g.K.Ord.cmp c.args.key c.args.number c.args.sets.now.items c.loop-alloc.sets.items c.index_mut.result.now c.insert.new.self (omega (arith, c.loop-alloc-test.false, c.len.ensures)) c.index_mut.ensures.value c.in_ok-insert.ensures.keys c.loop-alloc.invariant
