use Rattle.std.proofs.Common.{arith}
use Rattle.std.specs.Str.Parse.{digits_value}
use Rattle.boogie_grammar.proofs.PieceLaws.{digit_grows}
use Rattle.boogie_grammar.proofs.pieces.decimal.Goals as goal

pub returns-in_err-checked_mul : goal.returns-in_err-checked_mul
returns-in_err-checked_mul c =
    let step = digit_grows c.loop-digit.value c.loop-digit.digit-index c.args.digits.now (digits_value 10 c.args.digits.now) c.requires c.loop-digit-test.true c.loop-digit.invariant in
    rw c.from_residual.ensures (omega (arith, step, c.in_err-checked_mul.ensures))

pub returns-in_err-value : goal.returns-in_err-value
returns-in_err-value c =
    let step = digit_grows c.loop-digit.value c.loop-digit.digit-index c.args.digits.now (digits_value 10 c.args.digits.now) c.requires c.loop-digit-test.true c.loop-digit.invariant in
    rw c.from_residual-in_err-value.ensures (omega (arith, step, c.in_err-value.ensures))
