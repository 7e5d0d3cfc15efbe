use Rattle.std.proofs.Common.{arith}
use Rattle.viper_syntax.proofs.LongestLaws.{decimal_step}
use Rattle.viper_syntax.proofs.pieces.decimal.Goals as goal

pub returns-in_err-checked_mul : goal.returns-in_err-checked_mul
returns-in_err-checked_mul c =
    let step = decimal_step c.loop-digit.value c.loop-digit.digit-index c.args.digits.now c.loop-digit-test.true in
    rw c.from_residual.ensures (omega (arith, step, c.loop-digit.invariant, c.in_err-checked_mul.ensures))

pub returns-in_err-value : goal.returns-in_err-value
returns-in_err-value c =
    let step = decimal_step c.loop-digit.value c.loop-digit.digit-index c.args.digits.now c.loop-digit-test.true in
    rw c.from_residual-in_err-value.ensures (omega (arith, step, c.loop-digit.invariant, c.in_err-value.ensures))
