use Rattle.boogie_cut.proofs.WriteLaws.{range_more}
use Rattle.boogie_cut.proofs.calls.numbers.Goals as goal

pub loop-place-preserved : goal.loop-place-preserved
loop-place-preserved c =
    range_more c.args.n c.loop-place.place c.loop-place.numbers.items c.push.new.self.items c.in_ok-behind.field-0 c.loop-place.invariant c.in_ok-behind.ensures c.in_ok-push.ensures.items
