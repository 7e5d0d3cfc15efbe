-- The entries that are left are still to be set.
use Rattle.std.proofs.Common.{◌≡◌, drop, map}
use Rattle.sparse.specs.Map.{empty}
use Rattle.boogie_tree.specs.Whole.{entry_of}
use Rattle.boogie_meaning.specs.Run.{filled}
use Rattle.boogie_tree.specs.Values.{default_of}
use Rattle.boogie_eval.specs.View.{map_of}
use Rattle.boogie_run.proofs.replay_choices.filled.Given as goal

abbrev pub invariant-loop-entry : goal.invariant-loop-entry
invariant-loop-entry l = record { so_far : filled (empty (default_of l.fn.base)) (map entry_of l.entries) ≡ filled (map_of l.map) (map entry_of (drop l.entry-index l.entries)) }
