-- What the methods that are left leave is what all of them leave.
use Rattle.std.proofs.Common.{◌≡◌, ◌-◌, drop, map}
use Rattle.viper_core.specs.View.{program_of, method_of}
use Rattle.viper_core.specs.Weight.{methods_weight}
use Rattle.viper_core.proofs.weights.after_methods.Given as goal

abbrev pub invariant-loop-method : goal.invariant-loop-method
invariant-loop-method l =
    l.left - methods_weight (program_of l.program) (map method_of (drop l.method-index l.methods)) ≡ l.fn.room - methods_weight (program_of l.program) (map method_of l.methods)
