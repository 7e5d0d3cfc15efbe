use Rattle.std.proofs.Common.{◌≡◌, ◌↔◌, length}
use Rattle.vb_base.proofs.bytes.same_bytes.Given as goal

-- what is left is the same just where the whole is
abbrev pub invariant-loop-byte : goal.invariant-loop-byte
invariant-loop-byte l = record {
  same : (l.first ≡ l.second) ↔ (l.byte-iterator.a.rest.now ≡ l.byte-iterator.b.rest.now);
  long : length l.byte-iterator.a.rest.now ≡ length l.byte-iterator.b.rest.now;
}
