use Rattle.std.proofs.Common.{◌≡◌, drop}
use Rattle.viper_syntax.specs.Spelling.{decimal_from, decimal}
use Rattle.viper_syntax.proofs.pieces.decimal.Given as goal

abbrev pub invariant-loop-digit : goal.invariant-loop-digit
invariant-loop-digit l = decimal_from l.value (drop l.digit-index l.digits) ≡ decimal l.digits
