-- What the expressions that are left leave is what all of them leave.
use Rattle.std.proofs.Common.{◌≡◌, ◌-◌, drop}
use Rattle.viper_core.specs.Size.{sizes}
use Rattle.viper_core.specs.View.{exprs_of}
use Rattle.viper_core.proofs.sizes.+sizes.Given as goal

abbrev pub invariant-after_exprs-loop-e : goal.invariant-after_exprs-loop-e
invariant-after_exprs-loop-e l =
    l.left - sizes l.base (exprs_of (drop l.e-index l.es)) ≡ l.fn.room - sizes l.base (exprs_of l.es)
