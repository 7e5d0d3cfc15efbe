-- The keys so far, and those of the entries that are left.
use Rattle.std.proofs.Common.{◌≡◌, ◌++◌, drop}
use Rattle.std.specs.Map.{keys_of}
use Rattle.sparse.specs.Map.{borrowed}
use Rattle.viper_inhale.proofs.free_keys.all_keys.Given as goal

abbrev pub invariant-loop-entry : goal.invariant-loop-entry
invariant-loop-entry g l = borrowed l.list.items ++ keys_of (drop l.entry-index (borrowed l.entry-items)) ≡ keys_of (borrowed l.entry-items)
