use Rattle.std.proofs.Common.{◌≡◌, ◌≤◌, length, take}
use Rattle.boogie_grammar.proofs.front.same_len.Given as goal

abbrev pub invariant-loop-i : goal.invariant-loop-i
invariant-loop-i l = record {
  same : take l.i l.bytes ≡ take l.i l.front;
  within : l.i ≤ length l.bytes;
}
