-- The numbers so far, and those of the indices that are left.
use Rattle.std.proofs.Common.{◌≡◌, ◌++◌, drop}
use Rattle.boogie_tree.specs.Whole.{exprs_of}
use Rattle.boogie_eval.specs.Columns.{numbers_in_all}
use Rattle.boogie_eval.proofs.eval_marked.+marking.Given as goal

abbrev pub invariant-mark_all-loop-e : goal.invariant-mark_all-loop-e
invariant-mark_all-loop-e l = record {
  so_far : l.fn.numbers.items ++ numbers_in_all (exprs_of l.es) ≡ l.numbers.items ++ numbers_in_all (exprs_of (drop l.e-index l.es));
}
