-- The keys so far, and those of the entries that are left.
use Rattle.std.proofs.Common.{◌≡◌, ◌++◌, drop}
use Rattle.std.specs.Map.{keys_of}
use Rattle.sparse.specs.Map.{borrowed}
use Rattle.boogie_eval.specs.Columns.{entries_in}
use Rattle.boogie_eval.proofs.eval_columns.keys_of_column.Given as goal

abbrev pub invariant-loop-entry : goal.invariant-loop-entry
invariant-loop-entry l = record {
  so_far : borrowed l.list.items ++ keys_of (drop l.entry-index (entries_in l.column)) ≡ keys_of (entries_in l.column);
}
