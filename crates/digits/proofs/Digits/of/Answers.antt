use Rattle.std.proofs.Common.{arith}
use Rattle.std.proofs.lemmas.Fmt.{length-decimal-le}
use Rattle.digits.proofs.Digits.of.Goals as goal

pub put_before-start-requires-clause-room : goal.put_before-start-requires-clause-room
put_before-start-requires-clause-room c = omega (arith, length-decimal-le 20 c.args.number (omega arith) (omega arith) c.ranges.number.fits)
