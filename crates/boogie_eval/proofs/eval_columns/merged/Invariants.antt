-- The keys so far, and those of both lists that are left.
use Rattle.std.proofs.Common.{◌≡◌, ◌≤◌, ◌||◌, ◌++◌, drop, length}
use Rattle.sparse.specs.Map.{borrowed}
use Rattle.boogie_tree.specs.Value.{Key}
use Rattle.boogie_meaning.specs.Decided.{is_listed}
use Rattle.boogie_eval.proofs.eval_columns.merged.Given as goal

abbrev pub invariant-loop-key : goal.invariant-loop-key
invariant-loop-key l = record {
  inside : l.next ≤ length l.left;
  so_far : (k : Key) → (is_listed (borrowed l.list.items ++ drop l.next (borrowed l.left)) k || is_listed (drop l.key-index (borrowed l.right)) k) ≡ (is_listed (borrowed l.left) k || is_listed (borrowed l.right) k);
}
