-- The values so far, and the defaults of the variables that are left.
use Rattle.std.proofs.Common.{◌≡◌, ◌++◌, drop, map}
use Rattle.vb_value.specs.Value.{default_of}
use Rattle.viper_core.specs.View.{method_of}
use Rattle.viper_meaning.specs.Units as u
use Rattle.viper_run.proofs.units.first_store.Given as goal

abbrev pub invariant-loop-i : goal.invariant-loop-i
invariant-loop-i l = l.values.items ++ map default_of (drop l.i l.method.vars.items) ≡ u.first_store (method_of l.method) l.given
