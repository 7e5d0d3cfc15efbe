-- The keys that were copied, and those that are left.
use Rattle.std.proofs.Common.{◌≡◌, ◌++◌, drop}
use Rattle.sparse.specs.Map.{borrowed}
use Rattle.boogie_eval.proofs.eval_columns.copy_below.Given as goal

abbrev pub invariant-loop-i : goal.invariant-loop-i
invariant-loop-i l = borrowed l.list.items ++ drop l.i (borrowed l.keys) ≡ borrowed l.fn.list.items ++ drop l.start (borrowed l.keys)
