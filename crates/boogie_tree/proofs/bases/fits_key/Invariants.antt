-- The types and parts that are left tell it.
use Rattle.std.proofs.Common.{◌≡◌, ◌≤◌, length, drop}
use Rattle.boogie_tree.specs.Values.{fits_key}
use Rattle.boogie_tree.proofs.bases.fits_key.Given as goal

abbrev pub invariant-loop-base : goal.invariant-loop-base
invariant-loop-base l = record {
  so_far : fits_key l.bases l.parts ≡ fits_key (drop l.base-index l.bases) (drop l.count l.parts);
  below : l.count ≤ length l.parts;
}
