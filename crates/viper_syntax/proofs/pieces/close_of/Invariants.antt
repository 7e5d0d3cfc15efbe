use Rattle.std.proofs.Common.{◌≡◌, ◌+◌, ◌<◌, ℕ, Some, ◌↔◌}
use Rattle.std.specs.Prelude.{slice_get, IsTrue}
use Rattle.viper_syntax.specs.Piece.{ClosesAt}
use Rattle.viper_syntax.proofs.pieces.close_of.Given as goal

abbrev pub invariant-loop-i : goal.invariant-loop-i
invariant-loop-i l = record {
  some : IsTrue l.star → 0 < l.i;
  star : (k : ℕ) → k + 1 ≡ l.i → IsTrue l.star ↔ (slice_get l.text k ≡ Some 42);
  none : (j : ℕ) → j + 1 < l.i → ClosesAt l.text j → ⊥;
}
