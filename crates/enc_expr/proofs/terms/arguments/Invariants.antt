-- The variables so far.
use Rattle.std.proofs.Common.{◌≡◌, map, take}
use Rattle.boogie_tree.specs.Expr as t
use Rattle.boogie_tree.specs.Whole.{expr_of}
use Rattle.enc_expr.proofs.terms.arguments.Given as goal

abbrev pub invariant-loop-local : goal.invariant-loop-local
invariant-loop-local l = map expr_of l.index.items ≡ map t.Var (take l.local-index l.locals)
