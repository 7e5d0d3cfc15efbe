-- The entries that are left tell it.
use Rattle.std.proofs.Common.{◌≡◌, drop, map}
use Rattle.boogie_tree.specs.Whole.{entry_of}
use Rattle.boogie_meaning.specs.Run.{fits_entries}
use Rattle.boogie_run.proofs.replay_choices.fits_entries.Given as goal

abbrev pub invariant-loop-entry : goal.invariant-loop-entry
invariant-loop-entry l = record { so_far : fits_entries l.keys l.base (map entry_of l.entries) ≡ fits_entries l.keys l.base (map entry_of (drop l.entry-index l.entries)) }
