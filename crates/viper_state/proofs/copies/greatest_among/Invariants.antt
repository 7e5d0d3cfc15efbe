-- The entries so far have no greater reference.
use Rattle.std.proofs.Common.{◌≤◌, All, take}
use Rattle.viper_state.proofs.GreatestLaws.{HasAtMost}
use Rattle.viper_state.proofs.copies.greatest_among.Given as goal

abbrev pub invariant-loop-entry : goal.invariant-loop-entry
invariant-loop-entry l = All (HasAtMost l.greatest) (take l.entry-index l.entries) × (l.fn.least ≤ l.greatest)
