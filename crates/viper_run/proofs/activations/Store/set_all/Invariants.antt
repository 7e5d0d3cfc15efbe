-- The variables that are left are still to be set.
use Rattle.std.proofs.Common.{◌≡◌, drop}
use Rattle.viper_meaning.specs.Statements as m
use Rattle.viper_run.proofs.activations.Store.set_all.Given as goal

abbrev pub invariant-loop-i : goal.invariant-loop-i
invariant-loop-i l = m.stored l.self.values.items (drop l.i l.variables) (drop l.i l.values) ≡ m.stored l.fn.self.values.items l.variables l.values
