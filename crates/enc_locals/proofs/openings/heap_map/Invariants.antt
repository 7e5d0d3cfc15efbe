-- The entries that are left are still to be put.
use Rattle.std.proofs.Common.{◌≡◌}
use Rattle.sparse.specs.Map.{empty}
use Rattle.boogie_meaning.specs.Run.{filled}
use Rattle.moves.specs.Scalars.{scalar}
use Rattle.enc_locals.specs.Filled.{entries_from, heap_image, map_of}
use Rattle.enc_locals.proofs.openings.heap_map.Given as goal

abbrev pub invariant-loop-i : goal.invariant-loop-i
invariant-loop-i l = filled (empty (scalar l.heap.default)) (entries_from (heap_image l.heap) 0) ≡ filled (map_of l.map) (entries_from (heap_image l.heap) l.i)
