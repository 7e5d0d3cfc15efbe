use Rattle.std.proofs.Common.{◌≡◌, ◌+◌, drop}
use Rattle.vb_base.specs.Reading.{digit_count}
use Rattle.vb_base.proofs.labels.digit_count.Given as goal

abbrev pub invariant-loop-i : goal.invariant-loop-i
invariant-loop-i l = l.i + digit_count (drop l.i l.bytes) ≡ digit_count l.bytes
