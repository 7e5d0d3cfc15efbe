use Rattle.std.proofs.Common.{◌∙◌, arith}
use Rattle.enc_locals.proofs.NumberLaws.{range_more}
use Rattle.enc_locals.proofs.numbers.Numbers.take.Goals as goal

pub loop-preserved : goal.loop-preserved
loop-preserved c =
    (range_more c.args.self.now.next c.loop.counter c.in_ok-number.number c.loop.invariant.0 (c.in_ok-number.ensures.0 ∙ c.loop.invariant.1) c.in_ok-add.ensures, omega (arith, c.in_ok-number.ensures.1, c.loop.invariant.1))
