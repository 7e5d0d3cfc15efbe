use Rattle.boogie_wp.proofs.CodeLaws.{numbers_next}
use Rattle.boogie_wp.proofs.formulas.numbers_of.Goals as goal

pub loop-local-preserved : goal.loop-local-preserved
loop-local-preserved c =
    numbers_next c.args.locals.now c.loop-local.local c.loop-local.names.items c.push.new.self.items _ c.loop-local-test.true c.in_ok-push.ensures.items c.loop-local.invariant
