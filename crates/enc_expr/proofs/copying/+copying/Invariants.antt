-- The copies so far, and then those that are left.
use Rattle.std.proofs.Common.{◌≡◌, ◌++◌, drop}
use Rattle.boogie_tree.specs.Whole.{exprs_of}
use Rattle.enc_expr.proofs.copying.+copying.Given as goal

abbrev pub invariant-all_copied-loop-e : goal.invariant-all_copied-loop-e
invariant-all_copied-loop-e l = exprs_of (l.copies.items ++ drop l.e-index l.es) ≡ exprs_of l.es
