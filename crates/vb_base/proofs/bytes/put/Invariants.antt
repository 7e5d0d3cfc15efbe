use Rattle.std.proofs.Common.{◌≡◌, ◌+◌, ◌≤◌, ◌++◌, length, take}
use Rattle.vb_base.proofs.bytes.put.Given as goal

-- the bytes so far are there, and there is room for the others
abbrev pub invariant-loop-byte : goal.invariant-loop-byte
invariant-loop-byte l = (l.out.items ≡ l.fn.out.items ++ take l.byte-index l.bytes) × (l.out.len + length l.bytes ≤ l.out.cap + l.byte-index)
