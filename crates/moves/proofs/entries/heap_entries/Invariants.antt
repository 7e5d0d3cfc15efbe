use Rattle.std.proofs.Common.{◌≡◌, ℕ, take, map}
use Rattle.vb_value.specs.declared.values.Value.{Value}
use Rattle.boogie_tree.specs.Whole.{entry_of}
use Rattle.moves.specs.Maps.{place_key}
use Rattle.moves.specs.Scalars.{scalar}
use Rattle.moves.proofs.entries.heap_entries.Given as goal

abbrev pub invariant-loop-i : goal.invariant-loop-i
invariant-loop-i l = map entry_of l.entries.items ≡ take l.i (map (λ (e : ℕ × Value). record { key = place_key e.0; value = scalar e.1 }) l.heap.entries)
