-- The types that are left tell it.
use Rattle.std.proofs.Common.{◌≡◌, ◌≤◌, length, drop}
use Rattle.boogie_tree.specs.Values.{same_bases}
use Rattle.boogie_tree.proofs.bases.same_bases.Given as goal

abbrev pub invariant-loop-base : goal.invariant-loop-base
invariant-loop-base l = record {
  so_far : same_bases l.left l.right ≡ same_bases (drop l.base-index l.left) (drop l.count l.right);
  below : l.count ≤ length l.right;
}
