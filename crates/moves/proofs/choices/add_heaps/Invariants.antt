use Rattle.std.proofs.Common.{◌≡◌, ◌++◌, drop, map}
use Rattle.boogie_tree.specs.Whole.{choice_of}
use Rattle.moves.specs.Moves.{heap_choice}
use Rattle.moves.proofs.choices.add_heaps.Given as goal

abbrev pub invariant-loop-heap : goal.invariant-loop-heap
invariant-loop-heap l = map choice_of l.choices.items ++ map heap_choice (drop l.heap-index l.heaps) ≡ map choice_of l.initial.choices.items ++ map heap_choice l.heaps
