-- The keys of the entries so far are listed.
use Rattle.std.proofs.Common.{◌≡◌, take, true}
use Rattle.std.specs.Map.{keys_of}
use Rattle.sparse.specs.Map.{borrowed}
use Rattle.viper_state.specs.Loose.{is_listed}
use Rattle.viper_state.proofs.copies.listed.Given as goal

abbrev pub invariant-loop-entry : goal.invariant-loop-entry
invariant-loop-entry g l = (k : _) → is_listed g.K.Ord.cmp (keys_of (borrowed (take l.entry-index l.entries))) k ≡ true → is_listed g.K.Ord.cmp l.list.items k ≡ true
