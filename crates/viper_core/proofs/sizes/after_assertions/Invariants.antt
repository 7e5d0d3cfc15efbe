-- What the assertions that are left leave is what all of them leave.
use Rattle.std.proofs.Common.{◌≡◌, ◌-◌, drop}
use Rattle.viper_core.specs.Size.{assertion_sizes}
use Rattle.viper_core.specs.View.{assertions_of}
use Rattle.viper_core.proofs.sizes.after_assertions.Given as goal

abbrev pub invariant-loop-a : goal.invariant-loop-a
invariant-loop-a l =
    l.left - assertion_sizes l.base (assertions_of (drop l.a-index l.assertions)) ≡ l.fn.room - assertion_sizes l.base (assertions_of l.assertions)
