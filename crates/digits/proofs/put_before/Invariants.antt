use Rattle.std.proofs.Common.{◌≡◌, ◌+◌, ◌≤◌, ◌++◌, drop, length}
use Rattle.std.specs.Fmt.{decimal}
use Rattle.digits.proofs.put_before.Given as goal

-- the digits of what is left, and those that stand there, are all together
abbrev pub invariant-loop-rest : goal.invariant-loop-rest
invariant-loop-rest l = record {
  inside : l.end ≤ l.place;
  room : l.end + length (decimal l.number) ≡ l.place + length (decimal l.rest);
  text : decimal l.rest ++ drop l.end l.bytes ≡ decimal l.number ++ drop l.place l.initial.bytes;
}

abbrev pub decreases-loop-rest : goal.decreases-loop-rest
decreases-loop-rest l = l.rest
