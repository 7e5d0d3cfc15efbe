use Rattle.std.proofs.Common.{◌≡◌, ◌+◌, ◌≤◌, ℕ, List, ◌++◌, take}
use Rattle.vb_base.specs.Place.{IsPlaceAfter, line_after, col_after}
use Rattle.vb_base.proofs.texts.advance.Given as goal

abbrev pub invariant-loop-byte : goal.invariant-loop-byte
invariant-loop-byte l = record {
  line_from_one : 1 ≤ l.line;
  col_from_one : 1 ≤ l.col;
  line : l.line ≤ l.fn.start.line + l.byte-index;
  col : l.col ≤ l.fn.start.col + l.byte-index;
  place : (before : List ℕ) → IsPlaceAfter before l.fn.start → (l.line ≡ line_after (before ++ take l.byte-index l.bytes)) × (l.col ≡ col_after (before ++ take l.byte-index l.bytes));
}
