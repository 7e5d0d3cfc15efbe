-- The free keys so far, and those of the keys that are left.
use Rattle.std.proofs.Common.{◌≡◌, ◌++◌, drop}
use Rattle.std.specs.Prelude.{filter}
use Rattle.sparse.specs.Map.{borrowed}
use Rattle.viper_inhale.specs.Free.{is_free}
use Rattle.viper_inhale.proofs.free_keys.free_among.Given as goal

abbrev pub invariant-loop-key : goal.invariant-loop-key
invariant-loop-key g l = borrowed l.list.items ++ filter (is_free g.K.Ord.cmp l.held) (drop l.key-index l.keys) ≡ filter (is_free g.K.Ord.cmp l.held) l.keys
