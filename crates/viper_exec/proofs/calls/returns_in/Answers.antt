use Rattle.viper_exec.proofs.CallLaws.{one_more}
use Rattle.viper_exec.proofs.calls.returns_in.Goals as goal

pub loop-number-preserved : goal.loop-number-preserved
loop-number-preserved c = one_more c.loop-number.numbers.items c.loop-number.number _ c.loop-number-test.true c.in_ok-push.ensures.items c.loop-number.invariant
