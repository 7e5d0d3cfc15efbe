use Rattle.std.proofs.Common.{◌≡◌, ◌++◌, drop, map}
use Rattle.boogie_tree.specs.Value.{Many}
use Rattle.boogie_tree.specs.Whole.{value_of}
use Rattle.enc_locals.specs.Filled.{heap_image}
use Rattle.enc_locals.proofs.openings.add_heaps.Given as goal

abbrev pub invariant-loop-heap : goal.invariant-loop-heap
invariant-loop-heap l = map value_of l.values.items ++ map (λ h. Many (heap_image h)) (drop l.heap-index l.heaps) ≡ map value_of l.initial.values.items ++ map (λ h. Many (heap_image h)) l.heaps
