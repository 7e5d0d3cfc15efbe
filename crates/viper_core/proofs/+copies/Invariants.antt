-- The copies so far, and then the expressions that are left.
use Rattle.std.proofs.Common.{◌≡◌, ◌++◌, drop, map}
use Rattle.viper_core.specs.View.{expr_of}
use Rattle.viper_core.proofs.+copies.Given as goal

abbrev pub invariant-copies::copies-loop-e : goal.invariant-copies::copies-loop-e
invariant-copies::copies-loop-e l = map expr_of l.copies.items ++ map expr_of (drop l.e-index l.es) ≡ map expr_of l.es
