use Rattle.std.proofs.Common.{◌≡◌, ◌+◌, ◌≤◌, ◌++◌, drop, length}
use Rattle.std.specs.Fmt.{decimal}
use Rattle.digits.proofs.put_wide.Given as goal

-- the digits of what is left, and those that stand there, are all together
abbrev pub invariant-loop-rest : goal.invariant-loop-rest
invariant-loop-rest l = record {
  inside : l.end ≤ 40;
  less : l.rest ≤ l.number;
  room : l.end + length (decimal l.number) ≡ 40 + length (decimal l.rest);
  text : decimal l.rest ++ drop l.end l.bytes ≡ decimal l.number;
}

abbrev pub decreases-loop-rest : goal.decreases-loop-rest
decreases-loop-rest l = l.rest
