-- What the arguments that are left make, behind those so far.
use Rattle.std.proofs.Common.{◌≡◌, List, ◌++◌, drop}
use Rattle.viper_core.specs.View as viper
use Rattle.boogie_tree.specs.Whole.{exprs_of}
use Rattle.boogie_tree.specs.declared.exprs.BExpr.{BExpr}
use Rattle.enc_expr.specs.Plain.{plain_more}
use Rattle.enc_expr.specs.View.{kinds_of, place_in}
use Rattle.enc_expr.proofs.plains.plain_all.Given as goal

abbrev pub invariant-loop-a : goal.invariant-loop-a
invariant-loop-a l =
    (more : List BExpr) → exprs_of more ≡ plain_more (kinds_of l.reading.kinds) (place_in l.reading) (viper.exprs_of (drop l.a-index l.args)) →
    exprs_of (l.values.items ++ more) ≡ plain_more (kinds_of l.fn.reading.kinds) (place_in l.fn.reading) (viper.exprs_of l.fn.args)
