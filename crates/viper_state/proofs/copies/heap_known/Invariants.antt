-- The heaps so far have their lists, and no greater reference.
use Rattle.std.proofs.Common.{◌≤◌, take}
use Rattle.std.specs.List.{AllZip}
use Rattle.std.specs.Ordering.{nat_cmp}
use Rattle.viper_state.specs.Greatest.{AreWithin}
use Rattle.viper_state.proofs.LooseLaws.{HasKeys}
use Rattle.viper_state.proofs.copies.heap_known.Given as goal

abbrev pub invariant-loop-heap : goal.invariant-loop-heap
invariant-loop-heap l = AllZip (HasKeys nat_cmp) (take l.heap-index l.heaps) l.lists.items × (AreWithin l.greatest (take l.heap-index l.heaps) × (l.fn.least ≤ l.greatest))
