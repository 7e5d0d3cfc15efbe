-- The columns so far, and the numbers that are left.
use Rattle.std.proofs.Common.{◌≡◌, ◌||◌, drop}
use Rattle.boogie_tree.specs.Value.{Key}
use Rattle.boogie_meaning.specs.Decided.{is_listed}
use Rattle.boogie_eval.specs.Columns.{AreColumns, keys_of_columns, keys_of_maps}
use Rattle.boogie_eval.specs.View.{values_of}
use Rattle.boogie_eval.proofs.eval_columns.columns_of.Given as goal

abbrev pub invariant-loop-number : goal.invariant-loop-number
invariant-loop-number l = record {
  columns : AreColumns (values_of l.env) l.columns.items;
  so_far : (k : Key) → is_listed (keys_of_maps (values_of l.env) l.numbers) k ≡ (is_listed (keys_of_columns l.columns.items) k || is_listed (keys_of_maps (values_of l.env) (drop l.number-index l.numbers)) k);
}
